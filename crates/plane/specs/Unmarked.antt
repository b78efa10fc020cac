-- Document 01's answer to a pair: does a look yield no mark ("Crossing", "Collinear")? For different segments that is `Apart`.
use Rattle.std.specs.Prelude.{Bool, true, false, not, ◌||◌, ◌⊎◌}
use Rattle.geom.specs.declared.Point.{Point}
use Rattle.geom.specs.declared.Segment.{Segment}
use Rattle.geom.specs.Plane.{between}
use Rattle.plane.specs.Meeting.{Meeting, collinear, none, touching, crossing, meeting}
use Rattle.plane.specs.Pierce.{Inside}

-- p lies strictly between the ends of e
abbrev pub inside : Segment → Point → Bool
inside e p = between e.a p e.b

abbrev pub some_inside : Segment → Segment → Bool
some_inside e f = (inside e f.a || inside e f.b) || (inside f e.a || inside f e.b)

-- collinear: an end marks the other segment exactly if it lies strictly between its ends. Touching and crossing always mark
abbrev pub no_mark : Meeting → Bool → Bool
no_mark collinear some = not some
no_mark none some = true
no_mark touching some = false
no_mark crossing some = false

unfoldable pub unmarked : Segment → Segment → Bool
unmarked e f = no_mark (meeting e f) (some_inside e f)

abbrev pub SomeInside : Segment → Segment → Type 0
SomeInside e f = (Inside e f.a ⊎ Inside e f.b) ⊎ (Inside f e.a ⊎ Inside f e.b)
