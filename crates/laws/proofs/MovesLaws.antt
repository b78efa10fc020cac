-- The count of a ray is the same at two points that a straight stretch joins which no edge meets. Scaled by the product of their d the stretch has whole
-- ends, and is one more edge S of weight 0, apart from all others: the sum is the same at both of its ends (`along`), where it is the ray's count.
use Rattle.std.specs.Prelude.{◌≡◌, List, [], ◌∷◌, true, false, ℤ, pos, ◌+ℤ◌, ◌*ℤ◌, ◌≤ℤ◌, ◌<ℤ◌}
use Rattle.std.proofs.Math.Path.{refl, ap, ap₂}
use Rattle.std.proofs.Common.{sym, ◌∙◌, subst}
use Rattle.std.proofs.Math.Bool.{Bool, ◌&&◌}
use Rattle.std.proofs.Math.IntN.{*ℤ_comm}
use Rattle.std.specs.Int.Signed.{le_z, lt_z}
use Rattle.whole.specs.Order.{zz, add_is, sub_is}
use Rattle.whole.specs.Ring.{reads}
use Rattle.whole.proofs.RingLaws.{ring}
use Rattle.whole.proofs.SignLaws.{mul_pos}
use Rattle.whole.specs.Sum.{All, Over}
use Rattle.whole.proofs.SumLaws.{all_of, all_map, all_both, over-same, over_none}
use Rattle.plane.specs.Scaled.{at, spot, before_at}
use Rattle.whole.specs.Test.{is_true, is_false}
use Rattle.whole.proofs.TestLaws.{and_l, and_r, and_same, lt_of, le_of, eq_z_is}
use Rattle.geom.specs.declared.Point.{Point}
use Rattle.geom.specs.declared.Segment.{Segment}
use Rattle.geom.specs.Plane.{against, sameZ, Before}
use Rattle.geom.specs.Off.{Off, cross, rising}
use Rattle.plane.specs.Turns.{grid}
use Rattle.plane.proofs.TurnsLaws.{cross-grid}
use Rattle.segm.specs.Balance.{Balanced}
use Rattle.edges.specs.Below.{alive, lean}
use Rattle.laws.specs.Sides.{reaches, below_end}
use Rattle.laws.specs.Ray.{alive_at, crossed, ray}
use Rattle.laws.specs.Below.{lower_at}
use Rattle.laws.proofs.AlongLaws.{along}
use Rattle.laws.specs.Column.{under-right, under_left, upto}
use Rattle.laws.proofs.ColumnLaws.{columns}
use Rattle.laws.proofs.NodeLaws.{upright-zero}
use Rattle.laws.specs.Foot.{le-scaled, lt-scaled, u, v, foot, foot_on, foot-column, foot-height}
use Rattle.laws.specs.Scale.{one, on_start, on_finish, on_end, scaled, pos_scaled, alive_of, reaches_of}
use Rattle.laws.proofs.LevelLaws.{lower-off, fair_to}
use Rattle.laws.specs.Moves.{Misses, Through, grown_cross, stretch}

module _ (k m : ℤ) (R : Off) (hm : pos 0 <ℤ m) (e : k ≡ m *ℤ R.d) where
  grown : (x : ℤ) → k *ℤ x ≡ m *ℤ (R.d *ℤ x)
  grown x = ap (λ z. z *ℤ x) e ∙ assoc m R.d x
    where
      assoc : (a b c : ℤ) → (a *ℤ b) *ℤ c ≡ a *ℤ (b *ℤ c)
      assoc a b c = ring (a ∷ b ∷ c ∷ []) (search reads depth 20 fits 5000) tt

  alive-there : (t : Segment) → alive (m *ℤ R.X) (scaled k t) ≡ alive_at R t
  unfolding alive alive_at
  alive-there t = ap₂ (λ a b. le_z a (m *ℤ R.X) && lt_z (m *ℤ R.X) b) (grown t.a.x.0) (grown t.b.x.0) ∙ ap₂ ◌&&◌ (le-scaled m (R.d *ℤ t.a.x.0) R.X hm) (lt-scaled m R.X (R.d *ℤ t.b.x.0) hm)

  seen_there : (t : Segment) → lt_z (pos 0) (against (scaled k t) (at m (spot R))) ≡ lt_z (pos 0) (cross t R)
  seen_there t = subst (λ z. lt_z (pos 0) (against (scaled z t) (at m (spot R))) ≡ lt_z (pos 0) (cross t R)) (sym e)
      (ap (λ h. lt_z (pos 0) h) (grown_cross t m R) ∙ pos_scaled ((m *ℤ R.d) *ℤ m) (mul_pos (mul_pos hm R.over) hm) (cross t R))

through : (t : Segment) (p : Point) → t.a.x.0 ≤ℤ p.x.0 → p.x.0 ≤ℤ t.b.x.0 → t.a.x.0 <ℤ t.b.x.0 → against t p ≡ pos 0 → Through t p
through t p h k r z =
    let P = grid p in
    let s : pos 0 <ℤ (v t P +ℤ u t P) = omega (zz, one t.a.x.0, one t.b.x.0, add_is (v t P) (u t P), sub_is p.x.0 (pos 1 *ℤ t.a.x.0), sub_is (pos 1 *ℤ t.b.x.0) p.x.0) in
    record {
      Z = foot t P s;
      on = foot_on t P s (omega (zz, one t.a.x.0, sub_is p.x.0 (pos 1 *ℤ t.a.x.0))) (omega (zz, one t.b.x.0, sub_is (pos 1 *ℤ t.b.x.0) p.x.0));
      is_x = sym (*ℤ_comm (foot t P s).d p.x.0 ∙ foot-column t P s ∙ *ℤ_comm (foot t P s).X (pos 1) ∙ one (foot t P s).X);
      is_y = omega (
        zz,
        foot-height t P s,
        one (cross t P),
        cross-grid t p,
        sub_is (p.y.0 *ℤ (foot t P s).d) ((foot t P s).Y *ℤ pos 1),
        *ℤ_comm (foot t P s).Y (pos 1),
        one (foot t P s).Y,
        *ℤ_comm (foot t P s).d p.y.0,
      );
    }

module _ (w : Segment → ℤ) (L : List Segment) (fwd : All (λ t. Before t.a t.b) L) (bal : Balanced w L) (P Q : Off) (far : (Q.d *ℤ P.X) <ℤ (P.d *ℤ Q.X)) (free : All (Misses P Q) L) where
  abbrev k : ℤ
  k = Q.d *ℤ P.d

  hk : pos 0 <ℤ k
  hk = mul_pos Q.over P.over

  abbrev S : Segment
  S = stretch P Q

  abbrev p : Point
  p = at Q.d (spot P)

  abbrev q : Point
  q = at P.d (spot Q)

  off_p : (t : Segment) → Misses P Q t → (scaled k t).a.x.0 ≤ℤ p.x.0 → p.x.0 ≤ℤ (scaled k t).b.x.0 → (scaled k t).a.x.0 <ℤ (scaled k t).b.x.0 → against (scaled k t) p ≡ pos 0 → ⊥
  off_p t n h l r z = let T = through (scaled k t) p h l r z in n T.Z (on_start S T.Z T.is_x T.is_y) T.on

  off_q : (t : Segment) → Misses P Q t → (scaled k t).a.x.0 ≤ℤ q.x.0 → q.x.0 ≤ℤ (scaled k t).b.x.0 → (scaled k t).a.x.0 <ℤ (scaled k t).b.x.0 → against (scaled k t) q ≡ pos 0 → ⊥
  off_q t n h l r z = let T = through (scaled k t) q h l r z in n T.Z (on_finish S T.Z T.is_x T.is_y) T.on

  from_P : (t : Segment) → Misses P Q t → lower_at (scaled k t) S ≡ crossed P t
  unfolding lower_at crossed
  from_P t n = and_same (alive p.x.0 (scaled k t)) (λ a.
      let h = alive_of p.x.0 (scaled k t) a in
      lower-off (against (scaled k t) p) (lean (scaled k t) S) (off_p t n h.0 (omega (zz, h.1)) (omega (zz, h.0, h.1))) ∙ seen_there k Q.d P Q.over refl t)
      ∙ ap (λ a. a && lt_z (pos 0) (cross t P)) (alive-there k Q.d P Q.over refl t)

  left_of_Q : (t : Segment) → Misses P Q t → below_end (scaled k t) S ≡ under_left q (scaled k t)
  unfolding below_end under_left
  left_of_Q t n = and_same (reaches q.x.0 (scaled k t)) (λ a.
      let h = reaches_of q.x.0 (scaled k t) a in
      lower-off (against (scaled k t) q) (lean S (scaled k t)) (off_q t n (omega (zz, h.0)) h.1 (omega (zz, h.0, h.1))))

  none_up : (t : Segment) → Misses P Q t → upto q (scaled k t) ≡ false
  unfolding upto
  none_up t n = is_false (λ c. go (is_true c))
    where
      A : Bool
      A = sameZ (k *ℤ t.a.x.0) q.x.0

      B : Bool
      B = sameZ (k *ℤ t.b.x.0) q.x.0

      C : Bool
      C = lt_z (k *ℤ t.a.y.0) q.y.0

      D : Bool
      D = le_z q.y.0 (k *ℤ t.b.y.0)

      go : ((A && B) && (C && D)) ≡ true → ⊥
      go c =
          let a = eq_z_is {a = k *ℤ t.a.x.0} {b = q.x.0} (and_l A B (and_l (A && B) (C && D) c)) in
          let b = eq_z_is {a = k *ℤ t.b.x.0} {b = q.x.0} (and_r A B (and_l (A && B) (C && D) c)) in
          let r = lt_of {a = k *ℤ t.a.y.0} {b = q.y.0} (and_l C D (and_r (A && B) (C && D) c)) in
          let s = le_of {a = q.y.0} {b = k *ℤ t.b.y.0} (and_r C D (and_r (A && B) (C && D) c)) in
          n (grid q) (on_end S)
          (record {
            wide = rising (omega (zz, one (k *ℤ t.a.x.0))) (omega (zz, one (k *ℤ t.b.x.0)));
            high = rising (omega (zz, one (k *ℤ t.a.y.0))) (omega (zz, one (k *ℤ t.b.y.0)));
            line = cross-grid (scaled k t) q ∙ upright-zero (at k t.a) (at k t.b) q (a ∙ sym b) a;
          })

  from_Q : (t : Segment) → under-right q (scaled k t) ≡ crossed Q t
  unfolding under-right crossed
  from_Q t = ap₂ ◌&&◌ (alive-there k P.d Q P.over (*ℤ_comm Q.d P.d) t) (seen_there k P.d Q P.over (*ℤ_comm Q.d P.d) t)

  -- THE LAW
  pub ray_moves : ray w L P ≡ ray w L Q
  unfolding ray
  ray_moves = omega (
    zz,
    over-same w (all_map from_P free),
    along w L S (at k) bal (all_map (λ t m. fair_to S t k hk far m.0 m.1) (all_both fwd free)),
    over-same w (all_map left_of_Q free),
    columns w L (at k) bal (all_map (λ t f. before_at k hk f) fwd) q,
    over_none w (all_map none_up free),
    over-same w {L = L} (all_of L from_Q),
    add_is (Over w (λ t. under-right q (scaled k t)) L) (Over w (λ t. upto q (scaled k t)) L),
  )
