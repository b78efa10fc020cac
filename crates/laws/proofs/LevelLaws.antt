-- The level stretch from an upright edge e to a point P, scaled so that its ends are whole, as one more edge. Whatever has no point of it is apart from it.
-- Whatever comes to e passes over or under all that lies strictly within e, as it does at e's ends (`pierced`).
use Rattle.std.specs.Prelude.{◌≡◌, [], ◌∷◌, Bool, ℤ, pos, neg_ℤ, ◌+ℤ◌, ◌-ℤ◌, ◌*ℤ◌, ◌≤ℤ◌, ◌<ℤ◌}
use Rattle.std.proofs.Common.{sym, ◌∙◌, ap, ⊎_elim}
use Rattle.std.proofs.Math.IntN.{*ℤ-zero}
use Rattle.std.specs.Int.Signed.{lt_z}
use Rattle.whole.specs.Order.{zz, add_is, sub_is, neg_is}
use Rattle.whole.specs.Ring.{reads}
use Rattle.whole.proofs.RingLaws.{ring}
use Rattle.whole.specs.Sign.{Tri, less, same, more}
use Rattle.whole.proofs.SignLaws.{tri, lt_or_le, mul_pos, mul_pos_neg, pos_right, neg_right}
use Rattle.plane.specs.Scaled.{spot, scale-lt, scale-le, unscale_le, before_at}
use Rattle.whole.specs.Test.{lt-true, lt_gt}
use Rattle.geom.specs.declared.Point.{Point}
use Rattle.geom.specs.declared.Segment.{Segment}
use Rattle.geom.specs.Plane.{turn, against, Before, by_x}
use Rattle.geom.specs.Off.{Off, cross, On, Within, rising, falling}
use Rattle.plane.specs.Apart.{o₁, o₂}
use Rattle.edges.specs.Below.{lower}
use Rattle.laws.specs.Points.{runs}
use Rattle.laws.specs.Place.{Place, level, over_e, under_e, up_l, up_r, dn_l, dn_r, placed, lean_is, pull_dn, pull_dn', pull_up, pull_up', gap, weak}
use Rattle.laws.specs.Below.{lean_up, lower_up, lower-dn}
use Rattle.laws.specs.Along.{Fair}
use Rattle.laws.proofs.AlongLaws.{fair}
use Rattle.laws.proofs.NodeLaws.{no_factor}
use Rattle.laws.proofs.MidLaws.{drop}
use Rattle.laws.specs.Foot.{u, v, foot, foot_on, foot-column, foot-height}
use Rattle.laws.specs.Scale.{parted, scaled, down, factor, pos_scaled, against-scaled}
use Rattle.laws.proofs.ScaleLaws.{on_down}
use Rattle.laws.specs.Level.{Across, Free, bridge, onto, right, left}

-- what stands in P's column and at its level is on the stretch
reorder : (a b c : ℤ) → a *ℤ (b *ℤ c) ≡ b *ℤ (a *ℤ c)
reorder a b c = ring (a ∷ b ∷ c ∷ []) (search reads depth 20 fits 5000) tt

swap-two : (a b : ℤ) → a *ℤ b ≡ b *ℤ a
swap-two a b = ring (a ∷ b ∷ []) (search reads depth 20 fits 5000) tt

pub at_P : (e : Segment) (P Z : Off) → P.X *ℤ Z.d ≡ Z.X *ℤ P.d → Across e P Z
at_P e P Z c = ⊎_elim
    (λ (h : P.X <ℤ (P.d *ℤ e.a.x.0)). left (omega zz) (unscale_le P.d P.over (omega (zz, scale-lt Z.d Z.over h, swap-two Z.X P.d, swap-two P.X Z.d, reorder Z.d P.d e.a.x.0))))
    (λ (h : (P.d *ℤ e.a.x.0) ≤ℤ P.X). right (unscale_le P.d P.over (omega (zz, scale-le Z.d (omega (zz, Z.over)) h, swap-two Z.X P.d, swap-two P.X Z.d, reorder Z.d P.d e.a.x.0))) (omega zz))
    (lt_or_le P.X (P.d *ℤ e.a.x.0))

-- so no other edge passes through P
off-P : (e t : Segment) (P : Off) → Free e P t → (P.d *ℤ t.a.x.0) ≤ℤ P.X → P.X ≤ℤ (P.d *ℤ t.b.x.0) → t.a.x.0 <ℤ t.b.x.0 → cross t P ≡ pos 0 → ⊥
off-P e t P f h k r z =
    let s : pos 0 <ℤ (v t P +ℤ u t P) = omega (zz, scale-lt P.d P.over r, add_is (v t P) (u t P), sub_is P.X (P.d *ℤ t.a.x.0), sub_is (P.d *ℤ t.b.x.0) P.X) in
    f (foot t P s) (foot_on t P s (omega (zz, sub_is P.X (P.d *ℤ t.a.x.0))) (omega (zz, sub_is (P.d *ℤ t.b.x.0) P.X)))
    (omega (zz, foot-height t P s, ap (λ c. P.d *ℤ c) z ∙ *ℤ-zero P.d, sub_is (P.Y *ℤ (foot t P s).d) ((foot t P s).Y *ℤ P.d)))
    (at_P e P (foot t P s) (foot-column t P s))

seen_within : (e t : Segment) (P : Off) → (P.d *ℤ e.b.y.0 -ℤ P.Y) *ℤ o₁ t e +ℤ (P.Y -ℤ P.d *ℤ e.a.y.0) *ℤ o₂ t e
    ≡ neg_ℤ ((e.b.y.0 -ℤ e.a.y.0) *ℤ neg_ℤ (cross t (onto e P))) +ℤ (neg_ℤ ((t.b.y.0 -ℤ t.a.y.0) *ℤ (P.Y -ℤ P.d *ℤ e.a.y.0))) *ℤ (e.b.x.0 -ℤ e.a.x.0)
unfolding turn cross
seen_within e t P = ring (e.a.x.0 ∷ e.a.y.0 ∷ e.b.x.0 ∷ e.b.y.0 ∷ t.a.x.0 ∷ t.a.y.0 ∷ t.b.x.0 ∷ t.b.y.0 ∷ P.Y ∷ P.d ∷ []) (search reads depth 40 fits 50000) tt

turn_parts : (e : Segment) (p : Point) → against e p ≡ (e.b.y.0 -ℤ e.a.y.0) *ℤ (e.a.x.0 -ℤ p.x.0) +ℤ (p.y.0 -ℤ e.a.y.0) *ℤ (e.b.x.0 -ℤ e.a.x.0)
unfolding turn
turn_parts e p = ring (e.a.x.0 ∷ e.a.y.0 ∷ e.b.x.0 ∷ e.b.y.0 ∷ p.x.0 ∷ p.y.0 ∷ []) (search reads depth 20 fits 5000) tt

side_up : (e : Segment) (p : Point) → e.a.x.0 ≡ e.b.x.0 → against e p ≡ (e.b.y.0 -ℤ e.a.y.0) *ℤ (e.a.x.0 -ℤ p.x.0)
side_up e p h = drop ((e.b.y.0 -ℤ e.a.y.0) *ℤ (e.a.x.0 -ℤ p.x.0)) (p.y.0 -ℤ e.a.y.0) (e.b.x.0 -ℤ e.a.x.0) (turn_parts e p) (omega (zz, sub_is e.b.x.0 e.a.x.0))

module _ (e t : Segment) (P : Off) (upr : e.a.x.0 ≡ e.b.x.0) (tall : e.a.y.0 <ℤ e.b.y.0) (low : (P.d *ℤ e.a.y.0) <ℤ P.Y) (high : P.Y <ℤ (P.d *ℤ e.b.y.0)) where
  mean_up : (P.d *ℤ e.b.y.0 -ℤ P.Y) *ℤ o₁ t e +ℤ (P.Y -ℤ P.d *ℤ e.a.y.0) *ℤ o₂ t e ≡ neg_ℤ ((e.b.y.0 -ℤ e.a.y.0) *ℤ neg_ℤ (cross t (onto e P)))
  mean_up = drop (neg_ℤ ((e.b.y.0 -ℤ e.a.y.0) *ℤ neg_ℤ (cross t (onto e P)))) (neg_ℤ ((t.b.y.0 -ℤ t.a.y.0) *ℤ (P.Y -ℤ P.d *ℤ e.a.y.0))) (e.b.x.0 -ℤ e.a.x.0)
      (seen_within e t P) (omega (zz, sub_is e.b.x.0 e.a.x.0))

  height : pos 0 <ℤ (e.b.y.0 -ℤ e.a.y.0)
  height = omega (zz, sub_is e.b.y.0 e.a.y.0)

  room-above : pos 0 <ℤ (P.d *ℤ e.b.y.0 -ℤ P.Y)
  room-above = gap P.Y (P.d *ℤ e.b.y.0) high

  room-below : pos 0 <ℤ (P.Y -ℤ P.d *ℤ e.a.y.0)
  room-below = gap (P.d *ℤ e.a.y.0) P.Y low

  goes_over : neg_ℤ (cross t (onto e P)) <ℤ pos 0 → pos 0 <ℤ against (scaled P.d t) (spot (onto e P))
  goes_over h = let c : pos 0 <ℤ cross t (onto e P) = omega (zz, neg_is (cross t (onto e P))) in omega (zz, against-scaled t (onto e P), mul_pos P.over c)

  goes_under : pos 0 <ℤ neg_ℤ (cross t (onto e P)) → against (scaled P.d t) (spot (onto e P)) <ℤ pos 0
  goes_under h = let c : cross t (onto e P) <ℤ pos 0 = omega (zz, neg_is (cross t (onto e P))) in omega (zz, against-scaled t (onto e P), mul_pos_neg P.over c)

  pub pierced : {s : Bool} → Place e t s → t.a.x.0 ≤ℤ e.a.x.0 → e.a.x.0 ≤ℤ t.b.x.0 → t.a.x.0 <ℤ t.b.x.0 → (z : ℤ) → lower (against (scaled P.d t) (spot (onto e P))) z ≡ s
  pierced (level p q r s) h k l z = let c : ⊥ = omega (zz, lean_up e t upr tall l, lean_is t e, sub_is (o₂ t e) (o₁ t e)) in absurd c
  pierced (over_e p q) h k l z =
      let g : pos 0 <ℤ ((e.b.y.0 -ℤ e.a.y.0) *ℤ (e.a.x.0 -ℤ t.b.x.0)) = omega (zz, side_up e t.b upr) in
      let c : ⊥ = omega (zz, pos_right height g, sub_is e.a.x.0 t.b.x.0) in absurd c
  pierced (under_e p q) h k l z =
      let g : ((e.b.y.0 -ℤ e.a.y.0) *ℤ (e.a.x.0 -ℤ t.a.x.0)) <ℤ pos 0 = omega (zz, side_up e t.a upr) in
      let c : ⊥ = omega (zz, neg_right height g, sub_is e.a.x.0 t.a.x.0) in absurd c
  pierced (up_l p q) h k l z = lower_up z (goes_over (pull_dn mean_up (weak height) room-above (weak room-below) p q))
  pierced (up_r p q) h k l z = lower_up z (goes_over (pull_dn' mean_up (weak height) (weak room-above) room-below p q))
  pierced (dn_l p q) h k l z = lower-dn z (goes_under (pull_up mean_up (weak height) room-above (weak room-below) p q))
  pierced (dn_r p q) h k l z = lower-dn z (goes_under (pull_up' mean_up (weak height) (weak room-above) room-below p q))

-- where the height is not zero the slope does not matter
pub lower-off : (h z : ℤ) → (h ≡ pos 0 → ⊥) → lower h z ≡ lt_z (pos 0) h
lower-off h z n = go (tri h (pos 0))
  where
    go : Tri h (pos 0) → lower h z ≡ lt_z (pos 0) h
    go (less l) = lower-dn z l ∙ sym (lt_gt l)
    go (same l) = absurd (n l)
    go (more l) = lower_up z l ∙ sym (lt-true l)

-- ---- S and an edge that has no point of the stretch
spread : {d m n x : ℤ} → pos 0 <ℤ d → m <ℤ n → Within d m n x → ((d *ℤ m) ≤ℤ x) × (x ≤ℤ (d *ℤ n))
spread h l (rising p q) = (p, q)
spread {d} {m} {n} h l (falling p q) = let c : ⊥ = omega (zz, scale-lt d h l) in absurd c

flat : {d y z : ℤ} → Within d y y z → z ≡ d *ℤ y
flat (rising p q) = omega zz
flat (falling p q) = omega zz

level_of : (P Z : Off) → Z.Y ≡ Z.d *ℤ P.Y → P.Y *ℤ (P.d *ℤ Z.d) ≡ Z.Y *ℤ P.d
level_of P Z h = regroup P.Y P.d Z.d ∙ ap (λ y. y *ℤ P.d) (sym h)
  where
    regroup : (y k d : ℤ) → y *ℤ (k *ℤ d) ≡ (d *ℤ y) *ℤ k
    regroup y k d = ring (y ∷ k ∷ d ∷ []) (search reads depth 20 fits 5000) tt

by_P : (P Z : Off) → P.X *ℤ (P.d *ℤ Z.d) ≡ P.d *ℤ (Z.d *ℤ P.X)
by_P P Z = ring (P.X ∷ P.d ∷ Z.d ∷ []) (search reads depth 20 fits 5000) tt

module _ (e t : Segment) (P : Off) (f : Free e P t) where
  pub none_right : (P.d *ℤ e.a.x.0) <ℤ P.X → (Z : Off) → On (bridge (spot (onto e P)) (spot P)) Z → On (scaled P.d t) Z → ⊥
  none_right far Z on ont =
      let x = spread Z.over far on.wide in
      f (down P.d P.over Z) (on_down P.d P.over t Z ont) (level_of P Z (flat on.high))
      (right (omega (zz, x.0, factor P.d P.over Z.d e.a.x.0)) (omega (zz, scale-le {a = Z.X} {b = Z.d *ℤ P.X} P.d (omega (zz, P.over)) x.1, swap-two Z.X P.d, by_P P Z)))

  pub none_left : P.X <ℤ (P.d *ℤ e.a.x.0) → (Z : Off) → On (bridge (spot P) (spot (onto e P))) Z → On (scaled P.d t) Z → ⊥
  none_left near Z on ont =
      let x = spread Z.over near on.wide in
      f (down P.d P.over Z) (on_down P.d P.over t Z ont) (level_of P Z (flat on.high))
      (left (omega (zz, scale-le {a = Z.d *ℤ P.X} {b = Z.X} P.d (omega (zz, P.over)) x.0, swap-two Z.X P.d, by_P P Z)) (omega (zz, x.1, factor P.d P.over Z.d e.a.x.0)))

  -- P is not on t, so that the slope does not matter at P
  pub at_point_lem : (P.d *ℤ t.a.x.0) ≤ℤ P.X → P.X ≤ℤ (P.d *ℤ t.b.x.0) → t.a.x.0 <ℤ t.b.x.0 → (z : ℤ) → lower (against (scaled P.d t) (spot P)) z ≡ lt_z (pos 0) (against (scaled P.d t) (spot P))
  at_point_lem h k r z = lower-off (against (scaled P.d t) (spot P)) z (λ o. off-P e t P f h k r (no_factor P.d P.over (sym (against-scaled t P) ∙ o)))

-- S is fair to what has no point of the stretch
pub fair_to : (S t : Segment) (k : ℤ) → pos 0 <ℤ k → S.a.x.0 <ℤ S.b.x.0 → Before t.a t.b → ((Z : Off) → On S Z → On (scaled k t) Z → ⊥) → Fair S (scaled k t)
fair_to S t k hk run ft n =
    let bt = before_at k hk ft in
    let pl = placed (parted S (scaled k t) (by_x run) bt n) in
    fair S (scaled k t) run (runs bt) pl.0 pl.1

pub seen_P : (t : Segment) (P : Off) → lt_z (pos 0) (against (scaled P.d t) (spot P)) ≡ lt_z (pos 0) (cross t P)
seen_P t P = ap (λ h. lt_z (pos 0) h) (against-scaled t P) ∙ pos_scaled P.d P.over (cross t P)
