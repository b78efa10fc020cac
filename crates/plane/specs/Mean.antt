-- A mean of a segment's ends lies on the segment: P = v a + u b over u + v. So a common point is shown by its weights on both segments, with no box at hand.
-- The crossing of e with the line of f has the turns themselves for weights: o₂ f e · e.a - o₁ f e · e.b = o₁ e f · f.b - o₂ e f · f.a, over o₂ f e - o₁ f e = o₁ e f - o₂ e f.
use Rattle.std.specs.Prelude.{◌≡◌, refl, [], ◌∷◌, ℤ, pos, neg_ℤ, ◌+ℤ◌, ◌-ℤ◌, ◌*ℤ◌, ◌≤ℤ◌, ◌<ℤ◌}
use Rattle.std.proofs.Common.{sym, ◌∙◌, ap, subst, inl, inr, ⊎_elim}
use Rattle.whole.specs.Order.{zz, add_is, sub_is, neg_is}
use Rattle.whole.specs.Ring.{reads}
use Rattle.whole.proofs.RingLaws.{ring}
use Rattle.whole.proofs.SignLaws.{lt_or_le, mul_nonneg}
use Rattle.geom.specs.declared.Point.{Point}
use Rattle.geom.specs.declared.Segment.{Segment}
use Rattle.geom.specs.Plane.{Before, turn}
use Rattle.geom.specs.Off.{Off, cross, Within, rising, falling, On, EndOf}
use Rattle.geom.specs.Order.{before_irr}
use Rattle.plane.specs.Apart.{o₁, o₂}
use Rattle.plane.specs.Scaled.{at, spot, of_is}
use Rattle.plane.specs.Turns.{coords}
use Rattle.plane.specs.Weights.{Weights}

pub record Mean (e : Segment) (P : Off) (u v : ℤ) : Type 0 where
  pub u_low : pos 0 ≤ℤ u
  pub v_low : pos 0 ≤ℤ v
  pub total : P.d ≡ v +ℤ u
  pub mean_x : P.X ≡ v *ℤ e.a.x.0 +ℤ u *ℤ e.b.x.0
  pub mean_y : P.Y ≡ v *ℤ e.a.y.0 +ℤ u *ℤ e.b.y.0

-- ---- on the segment
less_p : (u v p q : ℤ) → v *ℤ p +ℤ u *ℤ q ≡ (v +ℤ u) *ℤ p +ℤ u *ℤ (q -ℤ p)
less_p u v p q = ring (u ∷ v ∷ p ∷ q ∷ []) (search reads depth 20 fits 5000) tt

less_q : (u v p q : ℤ) → v *ℤ p +ℤ u *ℤ q ≡ (v +ℤ u) *ℤ q +ℤ v *ℤ (p -ℤ q)
less_q u v p q = ring (u ∷ v ∷ p ∷ q ∷ []) (search reads depth 20 fits 5000) tt

minus : (u p q : ℤ) → u *ℤ (p -ℤ q) ≡ neg_ℤ (u *ℤ (q -ℤ p))
minus u p q = ring (u ∷ p ∷ q ∷ []) (search reads depth 20 fits 5000) tt

pub within-mean : (u v p q : ℤ) → pos 0 ≤ℤ u → pos 0 ≤ℤ v → Within (v +ℤ u) p q (v *ℤ p +ℤ u *ℤ q)
within-mean u v p q h k = ⊎_elim
    (λ (l : p <ℤ q). let g = mul_nonneg {a = u} {b = q -ℤ p} h (omega (zz, sub_is q p)) in let g' = mul_nonneg {a = v} {b = q -ℤ p} k (omega (zz, sub_is q p)) in rising
    (omega (zz, less_p u v p q, add_is ((v +ℤ u) *ℤ p) (u *ℤ (q -ℤ p))))
    (omega (zz, less_q u v p q, add_is ((v +ℤ u) *ℤ q) (v *ℤ (p -ℤ q)), minus v p q, neg_is (v *ℤ (q -ℤ p)))))
    (λ (l : q ≤ℤ p). let g = mul_nonneg {a = u} {b = p -ℤ q} h (omega (zz, sub_is p q)) in let g' = mul_nonneg {a = v} {b = p -ℤ q} k (omega (zz, sub_is p q)) in falling
    (omega (zz, less_q u v p q, add_is ((v +ℤ u) *ℤ q) (v *ℤ (p -ℤ q))))
    (omega (zz, less_p u v p q, add_is ((v +ℤ u) *ℤ p) (u *ℤ (q -ℤ p)), minus u q p, neg_is (u *ℤ (p -ℤ q)))))
    (lt_or_le p q)

line-mean : (u v p q g h : ℤ) → (q -ℤ p) *ℤ ((v *ℤ g +ℤ u *ℤ h) -ℤ (v +ℤ u) *ℤ g) -ℤ (h -ℤ g) *ℤ ((v *ℤ p +ℤ u *ℤ q) -ℤ (v +ℤ u) *ℤ p) ≡ pos 0
line-mean u v p q g h = ring (u ∷ v ∷ p ∷ q ∷ g ∷ h ∷ []) (search reads depth 20 fits 5000) tt

pub mean_on : {e : Segment} {P : Off} {u v : ℤ} → Mean e P u v → On e P
unfolding cross
mean_on {e} {P} {u} {v} M = record {
  wide = rw (M.total, M.mean_x) (within-mean u v e.a.x.0 e.b.x.0 M.u_low M.v_low);
  high = rw (M.total, M.mean_y) (within-mean u v e.a.y.0 e.b.y.0 M.u_low M.v_low);
  line = rw (M.total, M.mean_x, M.mean_y) (line-mean u v e.a.x.0 e.b.x.0 e.a.y.0 e.b.y.0);
}

-- ---- and strictly inside it, where both weights are over 0
pub one_way : (u v X d m : ℤ) → d ≡ v +ℤ u → X ≡ m → (u +ℤ v) *ℤ X ≡ d *ℤ m
one_way u v X d m h k = ap (λ t. (u +ℤ v) *ℤ t) k ∙ id ∙ ap (λ t. t *ℤ m) (sym h)
  where
    id : (u +ℤ v) *ℤ m ≡ (v +ℤ u) *ℤ m
    id = ring (u ∷ v ∷ m ∷ []) (search reads depth 20 fits 5000) tt

abbrev mean_weights : {e : Segment} {P : Off} {u v : ℤ} → Mean e P u v → Weights e P
mean_weights {e} {P} {u} {v} M = record {
  u = u;
  v = v;
  u_low = M.u_low;
  v_low = M.v_low;
  some = omega (zz, P.over, M.total, add_is v u, add_is u v);
  mean_x = one_way u v P.X P.d (v *ℤ e.a.x.0 +ℤ u *ℤ e.b.x.0) M.total M.mean_x;
  mean_y = one_way u v P.Y P.d (v *ℤ e.a.y.0 +ℤ u *ℤ e.b.y.0) M.total M.mean_y;
}

-- strictly between the ends
pub record Inner (e : Segment) (P : Off) : Type 0 where
  pub left : Before (at P.d e.a) (spot P)
  pub right : Before (spot P) (at P.d e.b)

pub inner_no_end : {e : Segment} {P : Off} → Inner e P → ¬ EndOf e P
inner_no_end {e} {P} i (inl h) = before_irr (subst (λ (t : Point). Before (at P.d e.a) t) (of_is h) i.left)
inner_no_end {e} {P} i (inr h) = before_irr (subst (λ (t : Point). Before t (at P.d e.b)) (of_is h) i.right)

-- ---- the crossing
meet_x : (e f : Segment) → o₂ f e *ℤ e.a.x.0 +ℤ neg_ℤ (o₁ f e) *ℤ e.b.x.0 ≡ neg_ℤ (o₂ e f) *ℤ f.a.x.0 +ℤ o₁ e f *ℤ f.b.x.0
unfolding turn
meet_x e f = ring (coords e f) (search reads depth 20 fits 5000) tt

meet_y : (e f : Segment) → o₂ f e *ℤ e.a.y.0 +ℤ neg_ℤ (o₁ f e) *ℤ e.b.y.0 ≡ neg_ℤ (o₂ e f) *ℤ f.a.y.0 +ℤ o₁ e f *ℤ f.b.y.0
unfolding turn
meet_y e f = ring (coords e f) (search reads depth 20 fits 5000) tt

meet_d : (e f : Segment) → o₂ f e +ℤ neg_ℤ (o₁ f e) ≡ neg_ℤ (o₂ e f) +ℤ o₁ e f
unfolding turn
meet_d e f = ring (coords e f) (search reads depth 20 fits 5000) tt

abbrev pub meet : (e f : Segment) → o₁ f e <ℤ o₂ f e → Off
meet e f h = record {
  X = o₂ f e *ℤ e.a.x.0 +ℤ neg_ℤ (o₁ f e) *ℤ e.b.x.0;
  Y = o₂ f e *ℤ e.a.y.0 +ℤ neg_ℤ (o₁ f e) *ℤ e.b.y.0;
  d = o₂ f e +ℤ neg_ℤ (o₁ f e);
  over = omega (zz, sub_is (o₂ f e) (o₁ f e));
}

pub meet_on_e : (e f : Segment) (h : o₁ f e <ℤ o₂ f e) → o₁ f e ≤ℤ pos 0 → pos 0 ≤ℤ o₂ f e → Mean e (meet e f h) (neg_ℤ (o₁ f e)) (o₂ f e)
meet_on_e e f h k l = record { u_low = omega (zz, neg_is (o₁ f e)); v_low = l; total = refl; mean_x = refl; mean_y = refl }

pub meet_on_f : (e f : Segment) (h : o₁ f e <ℤ o₂ f e) → pos 0 ≤ℤ o₁ e f → o₂ e f ≤ℤ pos 0 → Mean f (meet e f h) (o₁ e f) (neg_ℤ (o₂ e f))
meet_on_f e f h k l = record { u_low = k; v_low = omega (zz, neg_is (o₂ e f)); total = meet_d e f; mean_x = meet_x e f; mean_y = meet_y e f }
