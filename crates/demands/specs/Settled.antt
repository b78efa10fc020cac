-- Settled (demand 1): a look without marks at an ordered list leaves every two of its edges apart, and so with no common point but ends of both
-- ("Points off the grid": said of all X, Y, d).
use Rattle.std.specs.Prelude.{◌≡◌, List, []}
use Rattle.whole.specs.Sum.{All}
use Rattle.whole.proofs.SumLaws.{all_map, pairs_map}
use Rattle.geom.specs.declared.Segment.{Segment}
use Rattle.geom.specs.Order.{before-differ}
use Rattle.geom.specs.Off.{Off, On, EndOf}
use Rattle.plane.specs.Pierce.{Different}
use Rattle.segm.specs.Order.{EndsBefore, by_a, by_b}
use Rattle.split.specs.Look.{look}
use Rattle.split.specs.LookLaws.{Forward}
use Rattle.split.proofs.LookLaws.{look-settled}
use Rattle.laws.specs.Settled.{Settled}
use Rattle.overlay.specs.Looks.{radius}
use Rattle.demands.specs.Ordered.{Ordered}

-- every common point is an end of both
abbrev pub MeetAtEnds : Segment → Segment → Type 0
MeetAtEnds e f = (P : Off) → On e P → On f P → EndOf e P × EndOf f P

different : {e f : Segment} → EndsBefore e f → Different e f
different (by_a h) s = before-differ h s.0
different (by_b e h) s = before-differ h s.1

runs : {L : List Segment} → Ordered L → All Forward L
runs o = all_map (λ t g. g.1) o.good

pub unmarked-settled : {L : List Segment} → look radius L ≡ [] → Ordered L → Settled L
unmarked-settled {L} e o = let f = runs o in record { forward = f; apart = (look-settled radius L f (pairs_map (λ s t p q. different) f o.strict)).0 (cc) }
