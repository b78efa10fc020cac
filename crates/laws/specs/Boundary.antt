-- The boundary of a weighted list of segments, tried with any function φ of points: ∂ w φ L = Σ w t (φ t.a - φ t.b).
-- It vanishes for every φ exactly where the list is balanced. One way: take the φ that are 1 at one point and 0 elsewhere.
-- The other: to clear φ at a point p is to take away φ p times such a function, which keeps ∂; once φ is cleared at all
-- the ends of L nothing is left.
use Rattle.std.specs.Prelude.{◌≡◌, Bool, ℤ, pos, ◌-ℤ◌, ◌*ℤ◌}
use Rattle.std.proofs.Common.{◌∙◌}
use mathlib.Core.List.{List, [], ◌∷◌}
use Rattle.whole.specs.Order.{zz, sub_is}
use Rattle.whole.specs.Ring.{reads}
use Rattle.whole.proofs.RingLaws.{ring}
use Rattle.whole.specs.Sum.{Sum, ind, Over}
use Rattle.whole.proofs.SumLaws.{sum_same, sum-sub}
use Rattle.geom.specs.declared.Point.{Point}
use Rattle.geom.specs.declared.Segment.{Segment}
use Rattle.geom.specs.Plane.{same_point}
use Rattle.segm.specs.Balance.{starting, ending, Balanced}

-- what a segment from p to q of weight c gives
unfoldable pub flow : (Point → ℤ) → ℤ → Point → Point → ℤ
flow φ c p q = c *ℤ (φ p -ℤ φ q)

unfoldable pub ∂ : (Segment → ℤ) → (Point → ℤ) → List Segment → ℤ
∂ w φ L = Sum (λ t. flow φ (w t) t.a t.b) L

-- ---- φ that tells a region
parts : (c s e : ℤ) → c *ℤ (s -ℤ e) ≡ c *ℤ s -ℤ c *ℤ e
parts c s e = ring (c ∷ s ∷ e ∷ []) (search reads depth 20 fits 5000) tt

pub ∂-over : (w : Segment → ℤ) (R : Point → Bool) (L : List Segment) → ∂ w (λ q. ind (R q)) L ≡ Over w (λ t. R t.a) L -ℤ Over w (λ t. R t.b) L
unfolding ∂ flow Over
∂-over w R L = sum_same L (λ t. parts (w t) (ind (R t.a)) (ind (R t.b))) ∙ sum-sub (λ t. w t *ℤ ind (R t.a)) (λ t. w t *ℤ ind (R t.b)) L

abbrev one_at : Point → Point → ℤ
one_at p q = ind (same_point p q)

pub ∂-at : (w : Segment → ℤ) (L : List Segment) (p : Point) → ∂ w (one_at p) L ≡ starting w p L -ℤ ending w p L
∂-at w L p = ∂-over w (same_point p) L

module _ (w : Segment → ℤ) (L : List Segment) (bal : Balanced w L) where
  pub at_point_lem : (p : Point) → ∂ w (one_at p) L ≡ pos 0
  unfolding Balanced
  at_point_lem p = ∂-at w L p ∙ omega (zz, bal p, sub_is (starting w p L) (ending w p L))
