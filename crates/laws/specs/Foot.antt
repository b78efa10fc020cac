-- The foot of a point P on an edge t, in P's column: P lies over it, on it or under it as the cross product of P against t says, and two edges are seen
-- each from the foot on the other with opposite signs.
use Rattle.std.specs.Prelude.{◌≡◌, refl, [], ◌∷◌, true, ℤ, pos, neg_ℤ, ◌+ℤ◌, ◌-ℤ◌, ◌*ℤ◌, ◌≤ℤ◌, ◌<ℤ◌}
use Rattle.std.proofs.Common.{sym, ◌∙◌, ⊎_elim}
use Rattle.std.specs.Int.Signed.{le_z, lt_z}
use Rattle.whole.specs.Order.{zz, add_is, sub_is}
use Rattle.whole.specs.Ring.{reads}
use Rattle.whole.proofs.RingLaws.{ring}
use Rattle.whole.proofs.SignLaws.{lt_or_le}
use Rattle.plane.specs.Scaled.{scale-lt, scale-le, unscale_lt}
use Rattle.plane.specs.Mean.{mean_on}
use Rattle.whole.specs.Test.{lt-true, lt-false, le-true, le-false}
use Rattle.whole.proofs.TestLaws.{and_l, and_r, lt_of, le_of}
use Rattle.geom.specs.declared.Segment.{Segment}
use Rattle.geom.specs.Off.{Off, cross, On}
use Rattle.laws.specs.Ray.{alive_at}

-- ---- a positive factor does not matter to a test
pub le-scaled : (k a b : ℤ) → pos 0 <ℤ k → le_z (k *ℤ a) (k *ℤ b) ≡ le_z a b
le-scaled k a b h = ⊎_elim (λ (l : b <ℤ a). le-false (scale-lt k h l) ∙ sym (le-false l)) (λ (l : a ≤ℤ b). le-true (scale-le k (omega zz) l) ∙ sym (le-true l)) (lt_or_le b a)

pub lt-scaled : (k a b : ℤ) → pos 0 <ℤ k → lt_z (k *ℤ a) (k *ℤ b) ≡ lt_z a b
lt-scaled k a b h = ⊎_elim (λ (l : a <ℤ b). lt-true (scale-lt k h l) ∙ sym (lt-true l)) (λ (l : b ≤ℤ a). lt-false (scale-le k (omega zz) l) ∙ sym (lt-false l)) (lt_or_le a b)

-- ---- the foot of P on t: the mean of t's ends with the weights u and v that P's column gives them
module _ (t : Segment) (P : Off) where
  abbrev pub u : ℤ
  u = P.X -ℤ P.d *ℤ t.a.x.0

  abbrev pub v : ℤ
  v = P.d *ℤ t.b.x.0 -ℤ P.X

  abbrev pub foot : pos 0 <ℤ (v +ℤ u) → Off
  foot h = record { X = v *ℤ t.a.x.0 +ℤ u *ℤ t.b.x.0; Y = v *ℤ t.a.y.0 +ℤ u *ℤ t.b.y.0; d = v +ℤ u; over = h }

  pub foot_on : (h : pos 0 <ℤ (v +ℤ u)) → pos 0 ≤ℤ u → pos 0 ≤ℤ v → On t (foot h)
  foot_on h p q = mean_on {u = u} {v = v} (record { u_low = p; v_low = q; total = refl; mean_x = refl; mean_y = refl })

  -- in P's column, and under P by the cross product
  pub foot-column : (h : pos 0 <ℤ (v +ℤ u)) → P.X *ℤ (foot h).d ≡ (foot h).X *ℤ P.d
  foot-column h = ring (t.a.x.0 ∷ t.b.x.0 ∷ P.X ∷ P.d ∷ []) (search reads depth 40 fits 50000) tt

  pub foot-height : (h : pos 0 <ℤ (v +ℤ u)) → P.Y *ℤ (foot h).d -ℤ (foot h).Y *ℤ P.d ≡ P.d *ℤ cross t P
  unfolding cross
  foot-height h = ring (t.a.x.0 ∷ t.a.y.0 ∷ t.b.x.0 ∷ t.b.y.0 ∷ P.X ∷ P.Y ∷ P.d ∷ []) (search reads depth 40 fits 50000) tt

  pub foot-line : (h : pos 0 <ℤ (v +ℤ u)) → cross t (foot h) ≡ pos 0
  unfolding cross
  foot-line h = ring (t.a.x.0 ∷ t.a.y.0 ∷ t.b.x.0 ∷ t.b.y.0 ∷ P.X ∷ P.Y ∷ P.d ∷ []) (search reads depth 40 fits 50000) tt

-- two edges, each seen from the foot on the other
pub seen : (e t : Segment) (P : Off) (h : pos 0 <ℤ (v e P +ℤ u e P)) (k : pos 0 <ℤ (v t P +ℤ u t P)) → cross e (foot t P k) ≡ neg_ℤ (cross t (foot e P h))
unfolding cross
seen e t P h k = ring (e.a.x.0 ∷ e.a.y.0 ∷ e.b.x.0 ∷ e.b.y.0 ∷ t.a.x.0 ∷ t.a.y.0 ∷ t.b.x.0 ∷ t.b.y.0 ∷ P.X ∷ P.d ∷ []) (search reads depth 40 fits 50000) tt

pub lift : (e t : Segment) (P : Off) (h : pos 0 <ℤ (v e P +ℤ u e P)) → (e.b.x.0 -ℤ e.a.x.0) *ℤ cross t P ≡ (t.b.x.0 -ℤ t.a.x.0) *ℤ cross e P +ℤ cross t (foot e P h)
unfolding cross
lift e t P h = ring (e.a.x.0 ∷ e.a.y.0 ∷ e.b.x.0 ∷ e.b.y.0 ∷ t.a.x.0 ∷ t.a.y.0 ∷ t.b.x.0 ∷ t.b.y.0 ∷ P.X ∷ P.Y ∷ P.d ∷ []) (search reads depth 40 fits 50000) tt

pub foot_x : (e : Segment) (P : Off) → v e P *ℤ e.a.x.0 +ℤ u e P *ℤ e.b.x.0 ≡ (e.b.x.0 -ℤ e.a.x.0) *ℤ P.X
foot_x e P = ring (e.a.x.0 ∷ e.b.x.0 ∷ P.X ∷ P.d ∷ []) (search reads depth 40 fits 50000) tt

pub foot_d : (e : Segment) (P : Off) (z : ℤ) → (v e P +ℤ u e P) *ℤ z ≡ (e.b.x.0 -ℤ e.a.x.0) *ℤ (P.d *ℤ z)
foot_d e P z = ring (e.a.x.0 ∷ e.b.x.0 ∷ P.X ∷ P.d ∷ z ∷ []) (search reads depth 40 fits 50000) tt

-- ---- what alive says
pub begun : (P : Off) (t : Segment) → alive_at P t ≡ true → (P.d *ℤ t.a.x.0) ≤ℤ P.X
unfolding alive_at
begun P t h = le_of (and_l (le_z (P.d *ℤ t.a.x.0) P.X) (lt_z P.X (P.d *ℤ t.b.x.0)) h)

pub still : (P : Off) (t : Segment) → alive_at P t ≡ true → P.X <ℤ (P.d *ℤ t.b.x.0)
unfolding alive_at
still P t h = lt_of (and_r (le_z (P.d *ℤ t.a.x.0) P.X) (lt_z P.X (P.d *ℤ t.b.x.0)) h)

module _ (t : Segment) (P : Off) (h : (P.d *ℤ t.a.x.0) ≤ℤ P.X) (k : P.X <ℤ (P.d *ℤ t.b.x.0)) where
  pub some_t : pos 0 <ℤ (v t P +ℤ u t P)
  some_t = omega (zz, add_is (v t P) (u t P), sub_is P.X (P.d *ℤ t.a.x.0), sub_is (P.d *ℤ t.b.x.0) P.X)

  pub on_t : On t (foot t P some_t)
  on_t = foot_on t P some_t (omega (zz, sub_is P.X (P.d *ℤ t.a.x.0))) (omega (zz, sub_is (P.d *ℤ t.b.x.0) P.X))

  pub run_t : pos 0 <ℤ (t.b.x.0 -ℤ t.a.x.0)
  run_t = omega (zz, unscale_lt {a = t.a.x.0} {b = t.b.x.0} P.d P.over (omega zz), sub_is t.b.x.0 t.a.x.0)
