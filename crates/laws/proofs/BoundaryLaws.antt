-- The boundary of a weighted list of segments, tried with any function φ of points: ∂ w φ L = Σ w t (φ t.a - φ t.b).
-- It vanishes for every φ exactly where the list is balanced. One way: take the φ that are 1 at one point and 0 elsewhere.
-- The other: to clear φ at a point p is to take away φ p times such a function, which keeps ∂; once φ is cleared at all
-- the ends of L nothing is left.
use Rattle.std.specs.Prelude.{◌≡◌, Bool, true, false, ◌↔◌, ℤ, pos, ◌-ℤ◌, ◌*ℤ◌}
use Rattle.std.proofs.Math.Path.{refl, ap}
use Rattle.std.proofs.Common.{sym, ◌∙◌, ap₂}
use mathlib.Core.List.{List, [], ◌∷◌}
use Rattle.std.proofs.Math.IntN.{*ℤ-zero}
use Rattle.whole.specs.Order.{zz, sub_is}
use Rattle.whole.specs.Ring.{reads}
use Rattle.whole.proofs.RingLaws.{ring}
use Rattle.whole.specs.Sum.{All, none, also, ind, Over}
use Rattle.whole.proofs.SumLaws.{all_map, sum_same, sum-sub, sum-scale, sum-zero}
use Rattle.geom.specs.declared.Point.{Point}
use Rattle.geom.specs.declared.Segment.{Segment}
use Rattle.geom.specs.Plane.{same_point}
use Rattle.segm.specs.Balance.{starting, ending, Balanced}
use Rattle.laws.specs.Points.{point_of, point-yes}
use Rattle.laws.specs.Boundary.{at_point_lem, flow, ∂, ∂-at, ∂-over}

-- ---- linear in φ
lin : (c k fa fb da db : ℤ) → c *ℤ ((fa -ℤ k *ℤ da) -ℤ (fb -ℤ k *ℤ db)) ≡ c *ℤ (fa -ℤ fb) -ℤ k *ℤ (c *ℤ (da -ℤ db))
lin c k fa fb da db = ring (c ∷ k ∷ fa ∷ fb ∷ da ∷ db ∷ []) (search reads depth 20 fits 5000) tt

∂-less : (w : Segment → ℤ) (φ δ : Point → ℤ) (k : ℤ) (L : List Segment) → ∂ w (λ q. φ q -ℤ k *ℤ δ q) L ≡ ∂ w φ L -ℤ k *ℤ ∂ w δ L
unfolding ∂ flow
∂-less w φ δ k L = sum_same L (λ t. lin (w t) k (φ t.a) (φ t.b) (δ t.a) (δ t.b))
    ∙ sum-sub (λ t. w t *ℤ (φ t.a -ℤ φ t.b)) (λ t. k *ℤ (w t *ℤ (δ t.a -ℤ δ t.b))) L
    ∙ ap (λ s. ∂ w φ L -ℤ s) (sum-scale k (λ t. w t *ℤ (δ t.a -ℤ δ t.b)) L)

abbrev one_at : Point → Point → ℤ
one_at p q = ind (same_point p q)

-- ---- clearing φ
clear : Point → (Point → ℤ) → Point → ℤ
clear p φ q = φ q -ℤ φ p *ℤ one_at p q

self_clear : (v : ℤ) → v -ℤ v *ℤ pos 1 ≡ pos 0
self_clear v = ring (v ∷ []) (search reads depth 20 fits 5000) tt

clear-here : (p : Point) (φ : Point → ℤ) → clear p φ p ≡ pos 0
unfolding clear
clear-here p φ = ap (λ s. φ p -ℤ φ p *ℤ ind s) (point-yes refl) ∙ self_clear (φ p)

at_same : (p : Point) (φ : Point → ℤ) (q : Point) (t : Bool) → same_point p q ≡ t → φ p *ℤ ind t ≡ φ q *ℤ ind t
at_same p φ q true e = ap (λ r. φ r *ℤ pos 1) (point_of e)
at_same p φ q false e = *ℤ-zero (φ p) ∙ sym (*ℤ-zero (φ q))

no_more : (v i : ℤ) → v ≡ pos 0 → v -ℤ v *ℤ i ≡ pos 0
no_more v i e = rw e (ring (i ∷ []) (search reads depth 20 fits 5000) tt)

-- what is 0 stays 0
clear_keeps : (p : Point) (φ : Point → ℤ) (q : Point) → φ q ≡ pos 0 → clear p φ q ≡ pos 0
unfolding clear
clear_keeps p φ q h = ap (λ s. φ q -ℤ s) (at_same p φ q (same_point p q) refl) ∙ no_more (φ q) (one_at p q) h

clears : List Segment → (Point → ℤ) → Point → ℤ
clears [] φ = φ
clears (t ∷ K) φ = clear t.a (clear t.b (clears K φ))

Zero : (Point → ℤ) → Segment → Type 0
Zero φ t = (φ t.a ≡ pos 0) × (φ t.b ≡ pos 0)

zero_keeps : (p : Point) (φ : Point → ℤ) (t : Segment) → Zero φ t → Zero (clear p φ) t
unfolding Zero
zero_keeps p φ t h = (clear_keeps p φ t.a h.0, clear_keeps p φ t.b h.1)

clears_zero : (K : List Segment) (φ : Point → ℤ) → All (Zero (clears K φ)) K
unfolding clears Zero
clears_zero [] φ = none
clears_zero (t ∷ K) φ =
    let ψ = clears K φ in
    also (clear-here t.a (clear t.b ψ), clear_keeps t.a (clear t.b ψ) t.b (clear-here t.b ψ))
    (all_map (λ s h. zero_keeps t.a (clear t.b ψ) s (zero_keeps t.b ψ s h)) (clears_zero K φ))

none_left : (c : ℤ) → c *ℤ (pos 0 -ℤ pos 0) ≡ pos 0
none_left c = ring (c ∷ []) (search reads depth 20 fits 5000) tt

zero-∂ : (w : Segment → ℤ) (φ : Point → ℤ) (L : List Segment) → All (Zero φ) L → ∂ w φ L ≡ pos 0
unfolding ∂ flow Zero
zero-∂ w φ L h = sum-zero (all_map (λ t z. ap₂ (λ s r. w t *ℤ (s -ℤ r)) z.0 z.1 ∙ none_left (w t)) h)

module _ (w : Segment → ℤ) (L : List Segment) (bal : Balanced w L) where
  no_change : (v k : ℤ) → v -ℤ k *ℤ pos 0 ≡ v
  no_change v k = ring (v ∷ k ∷ []) (search reads depth 20 fits 5000) tt

  clear-∂ : (p : Point) (φ : Point → ℤ) → ∂ w (clear p φ) L ≡ ∂ w φ L
  unfolding clear
  clear-∂ p φ = ∂-less w φ (one_at p) (φ p) L ∙ ap (λ s. ∂ w φ L -ℤ φ p *ℤ s) ((at_point_lem w L bal) p) ∙ no_change (∂ w φ L) (φ p)

  clears_∂ : (K : List Segment) (φ : Point → ℤ) → ∂ w (clears K φ) L ≡ ∂ w φ L
  unfolding clears
  clears_∂ [] φ = refl
  clears_∂ (t ∷ K) φ = clear-∂ t.a (clear t.b (clears K φ)) ∙ clear-∂ t.b (clears K φ) ∙ clears_∂ K φ

  every_φ : (φ : Point → ℤ) → ∂ w φ L ≡ pos 0
  every_φ φ = sym (clears_∂ L φ) ∙ zero-∂ w (clears L φ) L (clears_zero L φ)

from_φ : (w : Segment → ℤ) (L : List Segment) → ((φ : Point → ℤ) → ∂ w φ L ≡ pos 0) → Balanced w L
unfolding Balanced
from_φ w L h p = omega (zz, ∂-at w L p, h (one_at p), sub_is (starting w p L) (ending w p L))

-- THE LAW
pub balanced_is : (w : Segment → ℤ) (L : List Segment) → Balanced w L ↔ ((φ : Point → ℤ) → ∂ w φ L ≡ pos 0)
balanced_is w L = (every_φ w L, from_φ w L)

-- balance over a region, the form that is used from here on
pub region : (w : Segment → ℤ) (L : List Segment) → Balanced w L → (R : Point → Bool) → Over w (λ t. R t.a) L ≡ Over w (λ t. R t.b) L
region w L h R = omega (zz, ∂-over w R L, every_φ w L h (λ q. ind (R q)), sub_is (Over w (λ t. R t.a) L) (Over w (λ t. R t.b) L))
