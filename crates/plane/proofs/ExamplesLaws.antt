-- Small pairs, some of document 01, computed: the definitions say what they should, and the hypotheses of the theorems can be met.
use Rattle.std.specs.Prelude.{◌≡◌, refl, true, false, ℕ, pos}
use Rattle.std.proofs.Common.{ap, ⊎_elim}
use Rattle.whole.specs.Order.{zz}
use Rattle.geom.specs.declared.Point.{Point}
use Rattle.geom.specs.declared.Segment.{Segment}
use Rattle.geom.specs.Plane.{point, segment, by_x, turn, side_of, before, between, same_point}
use Rattle.geom.specs.Off.{Off, On, EndOf}
use Rattle.geom.specs.Tests.{when_true, when_false}
use Rattle.plane.specs.Apart.{apart, apart?}
use Rattle.plane.specs.Meeting.{collinear, none, touching, crossing, meeting_by, meeting}
use Rattle.plane.proofs.Ends.{apart-ends}
use Rattle.plane.specs.Exactly.{Meets}
use Rattle.plane.proofs.ExactlyLaws.{apart_or_meets}
use Rattle.plane.specs.Unmarked.{unmarked}

-- from (p, q) to (r, s)
abbrev seg : ℕ → ℕ → ℕ → ℕ → Segment
seg p q r s = segment (point (pos p) (pos q)) (point (pos r) (pos s)) (pos 0) (pos 0)

abbrev rising : Segment
rising = seg 0 0 10 10

abbrev falling : Segment
falling = seg 0 10 10 0

abbrev flat : Segment
flat = seg 0 0 4 0

abbrev steep : Segment
steep = seg 0 0 3 5

abbrev upright : Segment
upright = seg 0 0 0 10

abbrev beside : Segment
beside = seg 0 4 6 6

-- ---- what the signs make of a pair
x_pair : meeting rising falling ≡ crossing
unfolding meeting_by side_of turn
x_pair = refl

t_pair : meeting upright beside ≡ touching
unfolding meeting_by side_of turn
t_pair = refl

v_pair : meeting flat steep ≡ none
unfolding meeting_by side_of turn
v_pair = refl

in_a_row : meeting flat (seg 4 0 6 0) ≡ collinear
unfolding meeting_by side_of turn
in_a_row = refl

no_mark_lem : (unmarked flat (seg 2 0 6 0) ≡ false) × (unmarked flat (seg 4 0 6 0) ≡ true) × (unmarked flat (seg 0 0 2 0) ≡ false)
unfolding unmarked meeting_by side_of turn before between
no_mark_lem = (refl, refl, refl)

-- ---- the theorems at work: two segments from (0, 0) meet only at ends of both, and two diagonals meet elsewhere
v_apart : apart flat steep ≡ true
unfolding apart turn before same_point
v_apart = refl

v_ends : (P : Off) → On flat P → On steep P → EndOf flat P × EndOf steep P
v_ends P = apart-ends (by_x (omega zz)) (by_x (omega zz)) (when_true (apart? flat steep) v_apart)

x_apart : apart rising falling ≡ false
unfolding apart turn before same_point
x_apart = refl

x_meets : Meets rising falling
x_meets = ⊎_elim (λ h. absurd (when_false (apart? rising falling) x_apart h)) (λ m. m) (apart_or_meets rising falling (by_x (omega zz)) (by_x (omega zz)) (λ h. differ h.0))
  where
    differ : point (pos 0) (pos 0) ≡ point (pos 0) (pos 10) → ⊥
    differ e = let y = ap (λ (t : Point). t.y.0) e in omega zz
