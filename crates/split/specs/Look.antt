-- The marks of a look ("The run", "Crossing"): for every pair i < j in list order, i is target and j other.
use Rattle.std.specs.Prelude.{Bool, true, false, cond, List, [], ◌∷◌, ◌++◌, ℕ, suc, pos, Option, Some, None}
use Rattle.std.specs.Int.Signed.{lt_z}
use Rattle.whole.specs.Lex.{lex}
use Rattle.whole.specs.Sorting.{sort}
use Rattle.whole.specs.Distinct.{distinct}
use Rattle.geom.specs.declared.Point.{Point}
use Rattle.geom.specs.declared.Segment.{Segment}
use Rattle.geom.specs.Plane.{sameZ, same_point}
use Rattle.cross.specs.declared.answer.Kind.{Kind}
use Rattle.cross.specs.declared.answer.Kind.TheVariants.{Pure, TargetEnd, OtherEnd, Overlay}
use Rattle.cross.specs.declared.answer.Cross.{Cross}
use Rattle.split.specs.declared.answer.Mark.{Mark}
use Rattle.split.specs.Marks.{numbers}
use Rattle.cross.specs.Cross.{inner, crossing}

abbrev pub mark : ℕ → Point → Mark
mark i p = record { segment = pos i; point = p }

-- a mark, if there is one
unfoldable pub one : Bool → Mark → List Mark
one true m = m ∷ []
one false m = []

-- collinear: in the order of the mask's bits, each end that lies strictly between the other's ends marks the other
unfoldable pub line_marks : ℕ → ℕ → Segment → Segment → List Mark
line_marks i j t o =
    one (inner o t.a) (mark j t.a) ++ one (inner o t.b) (mark j t.b) ++ one (inner t o.a) (mark i o.a) ++ one (inner t o.b) (mark i o.b)

-- Pure marks both, an end marks the other segment
unfoldable pub kind_marks : ℕ → ℕ → Segment → Segment → Point → Kind → List Mark
kind_marks i j t o p Pure = mark i p ∷ mark j p ∷ []
kind_marks i j t o p TargetEnd = mark j p ∷ []
kind_marks i j t o p OtherEnd = mark i p ∷ []
kind_marks i j t o p Overlay = line_marks i j t o

-- a pair that doesn't cross gives no mark
unfoldable pub cross_marks : ℕ → ℕ → Segment → Segment → Option Cross → List Mark
cross_marks i j t o (Some c) = kind_marks i j t o c.point c.kind
cross_marks i j t o None = []

abbrev pub pair_marks : ℕ → ℕ → ℕ → Segment → Segment → List Mark
pair_marks radius i j t o = cross_marks i j t o (crossing radius t o)

-- the marks of target i with each of the others, the first of which is number j
unfoldable pub marks_with : ℕ → ℕ → Segment → ℕ → List Segment → List Mark
marks_with radius i t j [] = []
marks_with radius i t j (o ∷ L) = pair_marks radius i j t o ++ marks_with radius i t (suc j) L

-- the marks of every pair of a list whose first segment is number i
unfoldable pub look_from : ℕ → ℕ → List Segment → List Mark
look_from radius i [] = []
look_from radius i (t ∷ L) = marks_with radius i t (suc i) L ++ look_from radius (suc i) L

abbrev pub look : ℕ → List Segment → List Mark
look radius L = look_from radius 0 L

-- ---- sorted by segment, x, y, repeats dropped

abbrev pub mark_order : Mark → Mark → Bool
mark_order m n = lex lt_z (numbers m) (numbers n)

unfoldable pub same_mark : Mark → Mark → Bool
same_mark m n = cond (sameZ m.segment n.segment) (same_point m.point n.point) false

unfoldable pub tidy : List Mark → List Mark
tidy ms = distinct same_mark (sort mark_order ms)
