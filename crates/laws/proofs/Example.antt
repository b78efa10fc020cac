-- Lists that meet the hypotheses. That of `Edges` is settled and balanced. In a triangle the point (1/3, 1/3) is beside the edge under it and level with the
-- upright one on its left, and its ray counts 1: the top of the one, the bottom of the other.
use Rattle.std.specs.Prelude.{◌≡◌, refl, List, [], ◌∷◌, ℤ, pos, negsuc, ◌+ℤ◌, ◌-ℤ◌, ◌*ℤ◌}
use Rattle.whole.specs.Order.{zz, add_is, sub_is}
use Rattle.whole.specs.Ring.{reads}
use Rattle.whole.proofs.RingLaws.{ring}
use Rattle.whole.specs.Sum.{none, also, Sum, Over, here, there}
use Rattle.geom.specs.declared.Segment.{Segment}
use Rattle.geom.specs.Plane.{point, segment, Side, subject, clip, count, before, same_point, turn}
use Rattle.geom.specs.Off.{Off, cross, Within, rising, falling}
use Rattle.plane.specs.Apart.{Apart, apart, apart_is}
use Rattle.segm.specs.Balance.{Balanced, balanced_at, balanced_over}
use Rattle.segm.specs.BalanceLaws.{balanced_test}
use Rattle.scan.specs.Masks.{bottom, top}
use Rattle.laws.specs.Edges.{running, standing, edges}
use Rattle.laws.specs.Ray.{ray}
use Rattle.laws.specs.Settled.{Settled, apart_from, settled, settled_of}
use Rattle.laws.specs.Law.{sign_of_sides}
use Rattle.laws.proofs.LawLaws.{sides_law}
use Rattle.laws.specs.Beside.{Between, over, under, Beside}
use Rattle.laws.proofs.BesideLaws.{ray-over}
use Rattle.laws.specs.Level.{Across, right, left, Level}
use Rattle.laws.proofs.BesideUpright.{ray-right}

-- ---- `Edges`
is_settled : Settled edges
unfolding running standing settled apart_from before apart same_point turn
is_settled = settled_of edges tt

is_balanced : (s : Side) → Balanced (count s) edges
unfolding running standing balanced_over balanced_at Over Sum same_point
is_balanced subject = (balanced_test (count subject) edges).0 tt
is_balanced clip = (balanced_test (count clip) edges).0 tt

-- whatever the rule, its signs are balanced
signs : (r : ℤ → ℤ → ℤ) → Balanced (sign_of_sides r edges) edges
signs r = sides_law r edges is_settled is_balanced

-- ---- a triangle
abbrev e : Segment
e = segment (point (pos 0) (pos 0)) (point (pos 1) (pos 0)) (pos 1) (pos 0)

abbrev f : Segment
f = segment (point (pos 0) (pos 0)) (point (pos 0) (pos 1)) (negsuc 0) (pos 0)

abbrev g : Segment
g = segment (point (pos 0) (pos 1)) (point (pos 1) (pos 0)) (negsuc 0) (pos 0)

abbrev triangle : List Segment
triangle = e ∷ f ∷ g ∷ []

abbrev third : Off
third = record { X = pos 1; Y = pos 1; d = pos 3; over = record { lt = tt } }

triangle-settled : Settled triangle
unfolding settled apart_from before apart same_point turn
triangle-settled = settled_of triangle tt

triangle-balanced : Balanced (count subject) triangle
unfolding balanced_over balanced_at Over Sum same_point
triangle-balanced = (balanced_test (count subject) triangle).0 tt

e_not_other : Apart e e → ⊥
unfolding apart before same_point turn
e_not_other h = (apart_is e e).1 h

f_not_other : Apart f f → ⊥
unfolding apart before same_point turn
f_not_other h = (apart_is f f).1 h

-- the lines, and the few products
on_e : (Z : Off) → cross e Z ≡ Z.Y
unfolding cross
on_e Z = ring (Z.X ∷ Z.Y ∷ Z.d ∷ []) (search reads depth 20 fits 5000) tt

on_g : (Z : Off) → cross g Z ≡ (Z.X +ℤ Z.Y) -ℤ Z.d
unfolding cross
on_g Z = ring (Z.X ∷ Z.Y ∷ Z.d ∷ []) (search reads depth 20 fits 5000) tt

one : (z : ℤ) → pos 1 *ℤ z ≡ z
one z = ring (z ∷ []) (search reads depth 20 fits 5000) tt

three : (z : ℤ) → z *ℤ pos 3 ≡ (z +ℤ z) +ℤ z
three z = ring (z ∷ []) (search reads depth 20 fits 5000) tt

nought : (z : ℤ) → z *ℤ pos 0 ≡ pos 0
nought z = ring (z ∷ []) (search reads depth 20 fits 5000) tt

column_f : (Z : Off) → Within Z.d (pos 0) (pos 0) Z.X → Z.X ≡ pos 0
column_f Z (rising p q) = omega (zz, nought Z.d)
column_f Z (falling p q) = omega (zz, nought Z.d)

-- no point of f or g in the stretch down to e, no point of e or g in the stretch across to f
f_not_down : (Z : Off) → Within Z.d (pos 0) (pos 0) Z.X → pos 1 *ℤ Z.d ≡ Z.X *ℤ pos 3 → ⊥
f_not_down Z h c = omega (zz, Z.over, column_f Z h, one Z.d, three Z.X, add_is (Z.X +ℤ Z.X) Z.X, add_is Z.X Z.X)

e_not_across : (Z : Off) → cross e Z ≡ pos 0 → pos 1 *ℤ Z.d ≡ Z.Y *ℤ pos 3 → ⊥
e_not_across Z l c = omega (zz, Z.over, on_e Z, one Z.d, three Z.Y, add_is (Z.Y +ℤ Z.Y) Z.Y, add_is Z.Y Z.Y)

g_not_down : (Z : Off) → cross g Z ≡ pos 0 → pos 1 *ℤ Z.d ≡ Z.X *ℤ pos 3 → Between e third Z → ⊥
g_not_down Z l c (over p q) = omega (zz, Z.over, on_g Z, on_e Z, one Z.d, three Z.X, three Z.Y, sub_is (Z.X +ℤ Z.Y) Z.d, add_is Z.X Z.Y, add_is (Z.X +ℤ Z.X) Z.X, add_is Z.X Z.X, add_is (Z.Y +ℤ Z.Y) Z.Y, add_is Z.Y Z.Y)
g_not_down Z l c (under p q) = omega (zz, Z.over, on_g Z, on_e Z, one Z.d, three Z.X, sub_is (Z.X +ℤ Z.Y) Z.d, add_is Z.X Z.Y, add_is (Z.X +ℤ Z.X) Z.X, add_is Z.X Z.X)

g_not_across : (Z : Off) → cross g Z ≡ pos 0 → pos 1 *ℤ Z.d ≡ Z.Y *ℤ pos 3 → Across f third Z → ⊥
g_not_across Z l c (right p q) = omega (zz, Z.over, on_g Z, one Z.d, three Z.X, three Z.Y, sub_is (Z.X +ℤ Z.Y) Z.d, add_is Z.X Z.Y, add_is (Z.X +ℤ Z.X) Z.X, add_is Z.X Z.X, add_is (Z.Y +ℤ Z.Y) Z.Y, add_is Z.Y Z.Y)
g_not_across Z l c (left p q) = omega (zz, Z.over, on_g Z, one Z.d, nought Z.d, three Z.Y, sub_is (Z.X +ℤ Z.Y) Z.d, add_is Z.X Z.Y, add_is (Z.Y +ℤ Z.Y) Z.Y, add_is Z.Y Z.Y)

beside_e : Beside triangle e third
beside_e = record {
  past = record { lt = tt };
  short = record { lt = tt };
  clear = also {t = e} (λ a Z h c b. e_not_other a)
      (also {t = f} (λ a Z h c b. f_not_down Z h.wide c)
      (also {t = g} (λ a Z h c b. g_not_down Z h.line c b) none));
}

level_f : Level triangle f third
level_f = record {
  low = record { lt = tt };
  high = record { lt = tt };
  clear = also {t = e} (λ a Z h c b. e_not_across Z h.line c)
      (also {t = f} (λ a Z h c b. f_not_other a)
      (also {t = g} (λ a Z h c b. g_not_across Z h.line c b) none));
}

over_e : ray (count subject) triangle third ≡ top (count subject) triangle e
unfolding cross
over_e = ray-over (count subject) triangle triangle-settled triangle-balanced e here third beside_e (record { lt = tt })

right_of_f : ray (count subject) triangle third ≡ bottom (count subject) triangle f
right_of_f = ray-right (count subject) triangle triangle-settled triangle-balanced f (there here) refl (record { lt = tt }) third level_f (record { lt = tt })
