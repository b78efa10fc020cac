-- Along one line the order of points is the sign of the dot product, by which cross_solver.rs finds the ends inside the other segment.
use Rattle.std.specs.Prelude.{◌≡◌, [], ◌∷◌, ◌↔◌, ℤ, pos, neg_ℤ, ◌+ℤ◌, ◌-ℤ◌, ◌*ℤ◌, ◌<ℤ◌}
use Rattle.std.proofs.Common.{sym, ◌∙◌, ap}
use Rattle.whole.specs.Order.{zz, add_is, sub_is, neg_is}
use Rattle.whole.specs.Ring.{reads}
use Rattle.whole.proofs.RingLaws.{ring}
use Rattle.whole.proofs.SignLaws.{mul_pos, sq_nonneg, pos_right}
use Rattle.geom.specs.declared.Point.{Point}
use Rattle.geom.specs.declared.Segment.{Segment}
use Rattle.geom.specs.Plane.{Before, by_x, by_y, turn, against}
use Rattle.geom.specs.Order.{Order, sooner, equal, later, order}

-- the step from p to q along e
abbrev pub dot : Segment → Point → Point → ℤ
dot e p q = (q.x.0 -ℤ p.x.0) *ℤ (e.b.x.0 -ℤ e.a.x.0) +ℤ (q.y.0 -ℤ p.y.0) *ℤ (e.b.y.0 -ℤ e.a.y.0)

data Ahead (x y : ℤ) : Type 0 where
  right : pos 0 <ℤ x → Ahead x y
  upward : x ≡ pos 0 → pos 0 <ℤ y → Ahead x y

ahead_of : {p q : Point} → Before p q → Ahead (q.x.0 -ℤ p.x.0) (q.y.0 -ℤ p.y.0)
ahead_of {p} {q} (by_x h) = right (omega (zz, sub_is q.x.0 p.x.0))
ahead_of {p} {q} (by_y e h) = upward (omega (zz, sub_is q.x.0 p.x.0)) (omega (zz, sub_is q.y.0 p.y.0))

square_up : (v z : ℤ) → pos 0 <ℤ v → pos 0 <ℤ (v *ℤ v +ℤ z *ℤ z)
square_up v z h = omega (zz, mul_pos h h, sq_nonneg z, add_is (v *ℤ v) (z *ℤ z))

dot-over : (w t v z : ℤ) → Ahead w t → Ahead v z → w *ℤ z -ℤ t *ℤ v ≡ pos 0 → pos 0 <ℤ (w *ℤ v +ℤ t *ℤ z)
dot-over w t v z (right h) (right k) e = pos_right k (omega (zz, id ∙ ap (λ s. w *ℤ (v *ℤ v +ℤ z *ℤ z) -ℤ z *ℤ s) e ∙ less, mul_pos h (square_up v z k)))
  where
    id : v *ℤ (w *ℤ v +ℤ t *ℤ z) ≡ w *ℤ (v *ℤ v +ℤ z *ℤ z) -ℤ z *ℤ (w *ℤ z -ℤ t *ℤ v)
    id = ring (w ∷ t ∷ v ∷ z ∷ []) (search reads depth 20 fits 5000) tt

    less : w *ℤ (v *ℤ v +ℤ z *ℤ z) -ℤ z *ℤ pos 0 ≡ w *ℤ (v *ℤ v +ℤ z *ℤ z)
    less = ring (w ∷ v ∷ z ∷ []) (search reads depth 20 fits 5000) tt
dot-over w t v z (right h) (upward k l) e = let y : ⊥ = omega (zz, mul_pos h l, id ∙ ap (λ s. w *ℤ z -ℤ t *ℤ s) (sym k) ∙ e) in absurd y
  where
    id : w *ℤ z ≡ w *ℤ z -ℤ t *ℤ pos 0
    id = ring (w ∷ t ∷ z ∷ []) (search reads depth 20 fits 5000) tt
dot-over w t v z (upward h l) (right k) e = let y : ⊥ = omega (zz, mul_pos l k, id ∙ ap (λ s. t *ℤ v -ℤ s *ℤ z) (sym h) ∙ flip ∙ ap neg_ℤ e) in absurd y
  where
    id : t *ℤ v ≡ t *ℤ v -ℤ pos 0 *ℤ z
    id = ring (v ∷ t ∷ z ∷ []) (search reads depth 20 fits 5000) tt

    flip : t *ℤ v -ℤ w *ℤ z ≡ neg_ℤ (w *ℤ z -ℤ t *ℤ v)
    flip = ring (w ∷ v ∷ t ∷ z ∷ []) (search reads depth 20 fits 5000) tt
dot-over w t v z (upward h l) (upward k m) e = omega (zz, mul_pos l m, id ∙ ap (λ s. s *ℤ v +ℤ t *ℤ z) (sym h))
  where
    id : t *ℤ z ≡ pos 0 *ℤ v +ℤ t *ℤ z
    id = ring (v ∷ t ∷ z ∷ []) (search reads depth 20 fits 5000) tt

skew : (e : Segment) (p q : Point) → (q.x.0 -ℤ p.x.0) *ℤ (e.b.y.0 -ℤ e.a.y.0) -ℤ (q.y.0 -ℤ p.y.0) *ℤ (e.b.x.0 -ℤ e.a.x.0) ≡ against e p -ℤ against e q
unfolding turn
skew e p q = ring (e.a.x.0 ∷ e.a.y.0 ∷ e.b.x.0 ∷ e.b.y.0 ∷ p.x.0 ∷ p.y.0 ∷ q.x.0 ∷ q.y.0 ∷ []) (search reads depth 20 fits 5000) tt

pub dot_before : (e : Segment) (p q : Point) → Before e.a e.b → against e p ≡ pos 0 → against e q ≡ pos 0 → Before p q → pos 0 <ℤ dot e p q
dot_before e p q be h k l = dot-over (q.x.0 -ℤ p.x.0) (q.y.0 -ℤ p.y.0) (e.b.x.0 -ℤ e.a.x.0) (e.b.y.0 -ℤ e.a.y.0) (ahead_of l) (ahead_of be) (skew e p q ∙ omega (zz, sub_is (against e p) (against e q)))

dot_back : (e : Segment) (p q : Point) → dot e p q ≡ neg_ℤ (dot e q p)
dot_back e p q = ring (e.a.x.0 ∷ e.a.y.0 ∷ e.b.x.0 ∷ e.b.y.0 ∷ p.x.0 ∷ p.y.0 ∷ q.x.0 ∷ q.y.0 ∷ []) (search reads depth 20 fits 5000) tt

dot_self : (e : Segment) (p : Point) → dot e p p ≡ pos 0
dot_self e p = ring (e.a.x.0 ∷ e.a.y.0 ∷ e.b.x.0 ∷ e.b.y.0 ∷ p.x.0 ∷ p.y.0 ∷ []) (search reads depth 20 fits 5000) tt

pub dot-order : (e : Segment) (p q : Point) → Before e.a e.b → against e p ≡ pos 0 → against e q ≡ pos 0 → (pos 0 <ℤ dot e p q) ↔ Before p q
dot-order e p q be h k = (λ d. go d (order p q), dot_before e p q be h k)
  where
    go : pos 0 <ℤ dot e p q → Order p q → Before p q
    go d (sooner l) = l
    go d (equal l) = let z : ⊥ = omega (zz, ap (λ (t : Point). dot e p t) (sym l) ∙ dot_self e p) in absurd z
    go d (later l) = let z : ⊥ = omega (zz, dot_before e q p be k h l, dot_back e p q, neg_is (dot e q p)) in absurd z
