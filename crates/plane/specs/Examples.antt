-- Small pairs, some of document 01, computed: the definitions say what they should, and the hypotheses of the theorems can be met.
use Rattle.std.specs.Prelude.{◌≡◌, refl, true, false, ℕ, pos, negsuc}
use Rattle.std.specs.Int.Signed.{quot_z}
use Rattle.geom.specs.declared.Segment.{Segment}
use Rattle.geom.specs.Plane.{point, segment, turn, side_of, before, between, same_point}
use Rattle.plane.specs.Apart.{apart}
use Rattle.plane.specs.Meeting.{meeting_by}
use Rattle.plane.specs.Unmarked.{unmarked}
use Rattle.plane.specs.Quotients.{nearest}

-- from (p, q) to (r, s)
abbrev seg : ℕ → ℕ → ℕ → ℕ → Segment
seg p q r s = segment (point (pos p) (pos q)) (point (pos r) (pos s)) (pos 0) (pos 0)

abbrev flat : Segment
flat = seg 0 0 4 0

abbrev upright : Segment
upright = seg 0 0 0 10

abbrev beside : Segment
beside = seg 0 4 6 6

-- ---- on one line: overlapping, end to end, from one start
on_a_line : (apart flat (seg 2 0 6 0) ≡ false) × (apart flat (seg 4 0 6 0) ≡ true) × (apart flat (seg 0 0 2 0) ≡ false)
unfolding apart turn before same_point
on_a_line = (refl, refl, refl)

-- equal segments are not apart, though no mark comes of them: the theorems ask for different ones
twice : (apart flat flat ≡ false) × (unmarked flat flat ≡ true)
unfolding apart unmarked meeting_by side_of turn before between same_point
twice = (refl, refl)

t_apart : apart upright beside ≡ false
unfolding apart turn before same_point
t_apart = refl

-- ---- quotients: a half goes away from zero, and a cut toward it
halves : (nearest (pos 9) (pos 2) ≡ pos 5) × (nearest (negsuc 8) (pos 2) ≡ negsuc 4) × (quot_z (negsuc 8) (pos 2) ≡ negsuc 3)
unfolding nearest
halves = (refl, refl, refl)
