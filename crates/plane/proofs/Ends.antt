-- Apart segments meet only at ends of both. P on both has weights on each, and by them a sum of the other's turns is zero:
-- two turns of one sign have no such sum, and of a zero and another turn it leaves the end with the zero. On one line the order of points decides.
use Rattle.std.specs.Prelude.{◌≡◌, [], ◌∷◌, ◌≢◌, ℤ, pos, ◌+ℤ◌, ◌*ℤ◌, ◌≤ℤ◌, ◌<ℤ◌}
use Rattle.std.proofs.Common.{sym, ◌∙◌, ap, subst, inl, inr, ⊎_elim}
use Rattle.whole.specs.Order.{zz, add_is}
use Rattle.whole.specs.Ring.{reads}
use Rattle.whole.proofs.RingLaws.{ring}
use Rattle.whole.proofs.SignLaws.{lt_or_le, mul_pos, mul_nonneg, mul_pos_neg, mul_nonneg_nonpos, zero_product}
use Rattle.geom.specs.declared.Point.{Point}
use Rattle.geom.specs.declared.Segment.{Segment}
use Rattle.geom.specs.Plane.{Before}
use Rattle.geom.specs.Off.{Off, cross, On, Is, EndOf}
use Rattle.geom.specs.Order.{before_irr, before-trans}
use Rattle.plane.specs.Apart.{UpTo, OneSide, OneZero, o₁, o₂, Apart, in_line_lem, off_e, off_f, at_ends}
use Rattle.plane.specs.Scaled.{at, is_of, before_at}
use Rattle.plane.specs.Weights.{Weights}
use Rattle.plane.proofs.WeightsLaws.{weights, is_a, is_b, first, last, key}

-- ---- two turns p, q under weights u, v
module _ (u v : ℤ) (u_low : pos 0 ≤ℤ u) (v_low : pos 0 ≤ℤ v) (some : pos 0 <ℤ (u +ℤ v)) (p q : ℤ) where
  sum_over : pos 0 <ℤ p → pos 0 <ℤ q → pos 0 <ℤ (v *ℤ p +ℤ u *ℤ q)
  sum_over h k = ⊎_elim
      (λ (l : pos 0 <ℤ u). omega (zz, add_is (v *ℤ p) (u *ℤ q), mul_pos l k, mul_nonneg {a = v} {b = p} v_low (omega zz)))
      (λ (l : u ≤ℤ pos 0). omega (zz, add_is (v *ℤ p) (u *ℤ q), mul_pos {a = v} {b = p} (omega (zz, add_is u v)) h, mul_nonneg {a = u} {b = q} u_low (omega zz)))
      (lt_or_le (pos 0) u)

  sum-under : p <ℤ pos 0 → q <ℤ pos 0 → (v *ℤ p +ℤ u *ℤ q) <ℤ pos 0
  sum-under h k = ⊎_elim
      (λ (l : pos 0 <ℤ u). omega (zz, add_is (v *ℤ p) (u *ℤ q), mul_pos_neg l k, mul_nonneg_nonpos {a = v} {b = p} v_low (omega zz)))
      (λ (l : u ≤ℤ pos 0). omega (zz, add_is (v *ℤ p) (u *ℤ q), mul_pos_neg {a = v} {b = p} (omega (zz, add_is u v)) h, mul_nonneg_nonpos {a = u} {b = q} u_low (omega zz)))
      (lt_or_le (pos 0) u)

  no_sum : OneSide p q → v *ℤ p +ℤ u *ℤ q ≡ pos 0 → ⊥
  no_sum (inl h) e = omega (zz, sum_over h.0 h.1)
  no_sum (inr h) e = omega (zz, sum-under h.0 h.1)

no_first : (u v p q : ℤ) → p ≡ pos 0 → q ≢ pos 0 → v *ℤ p +ℤ u *ℤ q ≡ pos 0 → u ≡ pos 0
no_first u v p q h n e = ⊎_elim (λ z. z) (λ z. absurd (n z)) (zero_product u q (id ∙ ap (λ t. v *ℤ t +ℤ u *ℤ q) (sym h) ∙ e))
  where
    id : u *ℤ q ≡ v *ℤ pos 0 +ℤ u *ℤ q
    id = ring (u ∷ q ∷ v ∷ []) (search reads depth 20 fits 5000) tt

no_second : (u v p q : ℤ) → p ≢ pos 0 → q ≡ pos 0 → v *ℤ p +ℤ u *ℤ q ≡ pos 0 → v ≡ pos 0
no_second u v p q n h e = ⊎_elim (λ z. z) (λ z. absurd (n z)) (zero_product v p (id ∙ ap (λ t. v *ℤ p +ℤ u *ℤ t) (sym h) ∙ e))
  where
    id : v *ℤ p ≡ v *ℤ p +ℤ u *ℤ pos 0
    id = ring (u ∷ p ∷ v ∷ []) (search reads depth 20 fits 5000) tt

-- ---- P, of weights W on f, lies on the line of e
module _ (e : Segment) {f : Segment} {P : Off} (W : Weights f P) (h : cross e P ≡ pos 0) where
  beside : OneSide (o₁ e f) (o₂ e f) → ⊥
  beside s = no_sum W.u W.v W.u_low W.v_low W.some (o₁ e f) (o₂ e f) s (key e W h)

  pub at_a : o₁ e f ≡ pos 0 → o₂ e f ≢ pos 0 → Is P f.a
  at_a z n = is_a W (no_first W.u W.v (o₁ e f) (o₂ e f) z n (key e W h))

  pub at_b : o₁ e f ≢ pos 0 → o₂ e f ≡ pos 0 → Is P f.b
  at_b n z = is_b W (no_second W.u W.v (o₁ e f) (o₂ e f) n z (key e W h))

  at_zero : OneZero (o₁ e f) (o₂ e f) → EndOf f P
  at_zero (inl z) = inl (at_a z.0 z.1)
  at_zero (inr z) = inr (at_b z.0 z.1)

-- ---- on one line: P is not after e.b, nor e.b after f.a, nor f.a after P
up_to-trans : {p q r : Point} → UpTo p q → UpTo q r → UpTo p r
up_to-trans {p} {q} {r} (inl e) k = subst (λ (t : Point). UpTo t r) (sym e) k
up_to-trans {p} {q} {r} (inr h) (inl e) = inr (subst (λ (t : Point). Before p t) e h)
up_to-trans (inr h) (inr k) = inr (before-trans h k)

up_to-both : {p q : Point} → UpTo p q → UpTo q p → p ≡ q
up_to-both (inl e) k = e
up_to-both (inr h) (inl e) = sym e
up_to-both (inr h) (inr k) = absurd (before_irr (before-trans h k))

up_to_at : {p q : Point} (d : ℤ) → pos 0 <ℤ d → UpTo p q → UpTo (at d p) (at d q)
up_to_at d h (inl e) = inl (ap (λ (t : Point). at d t) e)
up_to_at d h (inr k) = inr (before_at d h k)

one-after : {e f : Segment} {P : Off} → Before e.a e.b → Before f.a f.b → On e P → On f P → UpTo e.b f.a → Is P e.b × Is P f.a
one-after {e} {f} {P} be bf on_e on_f h =
    let k = up_to_at P.d P.over h in
    (is_of (up_to-both (last be on_e) (up_to-trans k (first bf on_f))), is_of (up_to-both (up_to-trans (last be on_e) k) (first bf on_f)))

-- ---- THE THEOREM
pub apart-ends : {e f : Segment} {P : Off} → Before e.a e.b → Before f.a f.b → Apart e f → On e P → On f P → EndOf e P × EndOf f P
apart-ends be bf (in_line_lem _ _ _ _ (inl h)) on_e on_f = let z = one-after be bf on_e on_f h in (inr z.0, inl z.1)
apart-ends be bf (in_line_lem _ _ _ _ (inr h)) on_e on_f = let z = one-after bf be on_f on_e h in (inl z.1, inr z.0)
apart-ends {e} be bf (off_e h) on_e on_f = absurd (beside e (weights bf on_f) on_e.line h)
apart-ends {f} be bf (off_f h) on_e on_f = absurd (beside f (weights be on_e) on_f.line h)
apart-ends {e} {f} be bf (at_ends h k) on_e on_f = (at_zero f (weights be on_e) on_f.line k, at_zero e (weights bf on_f) on_e.line h)
