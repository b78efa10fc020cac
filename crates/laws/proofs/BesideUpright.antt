-- Rays beside an upright edge e: where no other edge meets the level stretch from e to P, the ray's count at P is the bottom of e to its right and the
-- top of e to its left. The stretch, scaled, is one more edge S of weight 0, and the sum is the same at both of its ends (`along`).
use Rattle.std.specs.Prelude.{◌≡◌, refl, List, true, false, ◌&&◌, ℤ, pos, ◌*ℤ◌, ◌≤ℤ◌, ◌<ℤ◌}
use Rattle.std.proofs.Math.Path.{sym, ap}
use Rattle.std.proofs.Common.{◌∙◌, subst, inl, inr}
use Rattle.std.proofs.Math.Bool.{Bool}
use Rattle.std.specs.Int.Signed.{le_z, lt_z}
use Rattle.whole.specs.Order.{zz, add_is}
use Rattle.whole.specs.Sum.{All, Over, In}
use Rattle.whole.proofs.SumLaws.{all_of, all_map, all_both, over-same, over_none}
use Rattle.plane.specs.Scaled.{at, spot, unscale_lt, before_at}
use Rattle.whole.specs.Test.{is_true, is_false, lt-true, tests}
use Rattle.whole.proofs.TestLaws.{and_l, and_r, and_same, lt_of, le_of, eq_z_is}
use Rattle.geom.specs.declared.Segment.{Segment}
use Rattle.geom.specs.Plane.{against, sameZ, Before, by_y}
use Rattle.geom.specs.Off.{Off, cross, On, rising}
use Rattle.plane.specs.Apart.{Apart}
use Rattle.segm.specs.Balance.{Balanced}
use Rattle.edges.specs.Below.{alive, lean, lower}
use Rattle.scan.specs.Masks.{bottom, top}
use Rattle.laws.specs.Sides.{reaches, below_end, below_left, left_side}
use Rattle.laws.specs.Ray.{alive_at, crossed, ray}
use Rattle.laws.specs.Points.{runs}
use Rattle.laws.specs.Place.{left_A, up_left_a}
use Rattle.laws.specs.Settled.{Settled, Meets, meets_in, place_of}
use Rattle.laws.specs.Below.{lower_at, lean_up, bottom_is}
use Rattle.laws.specs.Along.{beneath, Fair}
use Rattle.laws.proofs.AlongLaws.{along}
use Rattle.laws.specs.Column.{under-right, under_left, upto}
use Rattle.laws.proofs.ColumnLaws.{columns}
use Rattle.laws.proofs.NodeLaws.{no_factor, upright-zero}
use Rattle.laws.proofs.Upright.{left_is_top}
use Rattle.laws.specs.Scale.{scaled, against-scaled, alive-scaled, reaches-scaled, alive_of, reaches_of}
use Rattle.laws.specs.Level.{Level, Free, onto, bridge}
use Rattle.laws.proofs.LevelLaws.{pierced, none_right, none_left, at_point_lem, fair_to, seen_P, at_P}

module _ (e : Segment) (P : Off) (upr : e.a.x.0 ≡ e.b.x.0) where
  -- e's two ends, scaled, stand in one column
  one_x : P.d *ℤ e.a.x.0 ≡ P.d *ℤ e.b.x.0
  one_x = ap (λ x. P.d *ℤ x) upr

  own_right : (P.d *ℤ e.a.x.0) <ℤ P.X → Fair (bridge (spot (onto e P)) (spot P)) (scaled P.d e)
  unfolding lower_at below_end beneath alive reaches
  own_right far =
      let b : (P.d *ℤ e.b.x.0) <ℤ P.X = omega (zz, one_x) in
      let c : (P.d *ℤ e.a.x.0) ≤ℤ (P.d *ℤ e.a.x.0) = omega zz in
      let d = one_x in
      record { equal = simp tests }

  own_left : P.X <ℤ (P.d *ℤ e.a.x.0) → Fair (bridge (spot P) (spot (onto e P))) (scaled P.d e)
  unfolding lower_at below_end beneath alive reaches
  own_left near =
      let b : P.X <ℤ (P.d *ℤ e.b.x.0) = omega (zz, one_x) in
      let c : (P.d *ℤ e.a.x.0) ≤ℤ (P.d *ℤ e.a.x.0) = omega zz in
      let d = one_x in
      record { equal = simp (tests, lt-true near, lt-true b) }

module _ (w : Segment → ℤ) (L : List Segment) (st : Settled L) (bal : Balanced w L) (e : Segment) (i : In e L) (upr : e.a.x.0 ≡ e.b.x.0) (tall : e.a.y.0 <ℤ e.b.y.0) (P : Off) (lv : Level L e P) where
  -- what is known of each edge of the list
  abbrev Known : Segment → Type 0
  Known t = (Meets e t × (Apart e t → Free e P t)) × Before t.a t.b

  known : All Known L
  known = all_both (all_both (meets_in i st.apart) lv.clear) st.forward

  abbrev S-right : Segment
  S-right = bridge (spot (onto e P)) (spot P)

  abbrev S-left : Segment
  S-left = bridge (spot P) (spot (onto e P))

  -- ---- to the right
  module _ (far : (P.d *ℤ e.a.x.0) <ℤ P.X) where
    fair_right : (t : Segment) → Known t → Fair S-right (scaled P.d t)
    fair_right t ((inl q, f), ft) = subst (λ r. Fair S-right (scaled P.d r)) q (own_right e P upr far)
    fair_right t ((inr n, f), ft) = fair_to S-right t P.d P.over far ft (none_right e t P (f n) far)

    -- at e: the bottom
    right_of_e : (t : Segment) → Known t → lower_at (scaled P.d t) S-right ≡ lower_at t e
    unfolding lower_at
    right_of_e t k =
        let m = k.0.0 in
        ap (λ a. a && lower (against (scaled P.d t) (spot (onto e P))) (lean (scaled P.d t) S-right)) (alive-scaled P.d P.over e.a.x.0 t)
        ∙ and_same (alive e.a.x.0 t) (λ a.
        let h = alive_of e.a.x.0 t a in
        pierced e t P upr tall lv.low lv.high (place_of m).1 h.0 (omega (zz, h.1)) (omega (zz, h.0, h.1)) (lean (scaled P.d t) S-right)
        ∙ sym (left_A e t (omega zz) (runs k.1) (place_of m).1 h.0 h.1))

    -- at P: the ray, as nothing passes through P
    left_of_P : (t : Segment) → Known t → below_end (scaled P.d t) S-right ≡ under_left (spot P) (scaled P.d t)
    unfolding below_end under_left
    left_of_P t ((m, f), ft) = and_same (reaches P.X (scaled P.d t)) (λ r. go m (reaches_of P.X (scaled P.d t) r))
      where
        go : Meets e t → ((P.d *ℤ t.a.x.0) <ℤ P.X) × (P.X ≤ℤ (P.d *ℤ t.b.x.0)) → lower (against (scaled P.d t) (spot P)) (lean S-right (scaled P.d t)) ≡ lt_z (pos 0) (against (scaled P.d t) (spot P))
        go (inl q) h = let c : ⊥ = omega (zz, h.1, one_x e P upr, ap (λ (s : Segment). P.d *ℤ s.b.x.0) q) in absurd c
        go (inr n) h = at_point_lem e t P (f n) (omega (zz, h.0)) h.1 (unscale_lt P.d P.over (omega (zz, h.0, h.1))) (lean S-right (scaled P.d t))

    none_up : (t : Segment) → Known t → upto (spot P) (scaled P.d t) ≡ false
    unfolding upto
    none_up t ((m, f), ft) = is_false (λ c. go m (is_true c))
      where
        A : Bool
        A = sameZ (P.d *ℤ t.a.x.0) P.X

        B : Bool
        B = sameZ (P.d *ℤ t.b.x.0) P.X

        C : Bool
        C = lt_z (P.d *ℤ t.a.y.0) P.Y

        D : Bool
        D = le_z P.Y (P.d *ℤ t.b.y.0)

        go : Meets e t → ((A && B) && (C && D)) ≡ true → ⊥
        go (inl q) c = omega (zz, eq_z_is {a = P.d *ℤ t.a.x.0} {b = P.X} (and_l A B (and_l (A && B) (C && D) c)), ap (λ (s : Segment). P.d *ℤ s.a.x.0) q)
        go (inr n) c =
            let p = eq_z_is {a = P.d *ℤ t.a.x.0} {b = P.X} (and_l A B (and_l (A && B) (C && D) c)) in
            let q = eq_z_is {a = P.d *ℤ t.b.x.0} {b = P.X} (and_r A B (and_l (A && B) (C && D) c)) in
            let r = lt_of {a = P.d *ℤ t.a.y.0} {b = P.Y} (and_l C D (and_r (A && B) (C && D) c)) in
            let s = le_of {a = P.Y} {b = P.d *ℤ t.b.y.0} (and_r C D (and_r (A && B) (C && D) c)) in
            let on : On t P = record {
              wide = rising (omega zz) (omega zz);
              high = rising (omega zz) (omega zz);
              line = no_factor P.d P.over (sym (against-scaled t P) ∙ upright-zero (at P.d t.a) (at P.d t.b) (spot P) (p ∙ sym q) p);
            } in
            f n P on refl (at_P e P P refl)

    right_of_P : (t : Segment) → under-right (spot P) (scaled P.d t) ≡ crossed P t
    unfolding under-right crossed alive alive_at
    right_of_P t = ap (λ c. (le_z (P.d *ℤ t.a.x.0) P.X && lt_z P.X (P.d *ℤ t.b.x.0)) && c) (seen_P t P)

    pub ray-right : ray w L P ≡ bottom w L e
    unfolding ray
    ray-right = omega (
      zz,
      bottom_is w L e (by_y upr tall),
      over-same w (all_map right_of_e known),
      along w L S-right (at P.d) bal (all_map fair_right known),
      over-same w (all_map left_of_P known),
      columns w L (at P.d) bal (all_map (λ t f. before_at P.d P.over f) st.forward) (spot P),
      over_none w (all_map none_up known),
      over-same w {L = L} (all_of L right_of_P),
      add_is (Over w (λ t. under-right (spot P) (scaled P.d t)) L) (Over w (λ t. upto (spot P) (scaled P.d t)) L),
    )

  -- ---- to the left
  module _ (near : P.X <ℤ (P.d *ℤ e.a.x.0)) where
    fair_left : (t : Segment) → Known t → Fair S-left (scaled P.d t)
    fair_left t ((inl q, f), ft) = subst (λ r. Fair S-left (scaled P.d r)) q (own_left e P upr near)
    fair_left t ((inr n, f), ft) = fair_to S-left t P.d P.over near ft (none_left e t P (f n) near)

    -- at P: the ray
    ray_at_P : (t : Segment) → Known t → lower_at (scaled P.d t) S-left ≡ crossed P t
    unfolding lower_at crossed alive_at alive
    ray_at_P t ((m, f), ft) = and_same (alive P.X (scaled P.d t)) (λ a. go m (alive_of P.X (scaled P.d t) a))
      where
        go : Meets e t → ((P.d *ℤ t.a.x.0) ≤ℤ P.X) × (P.X <ℤ (P.d *ℤ t.b.x.0)) → lower (against (scaled P.d t) (spot P)) (lean (scaled P.d t) S-left) ≡ lt_z (pos 0) (cross t P)
        go (inl q) h = let c : ⊥ = omega (zz, h.0, ap (λ (s : Segment). P.d *ℤ s.a.x.0) q) in absurd c
        go (inr n) h = at_point_lem e t P (f n) h.0 (omega (zz, h.1)) (unscale_lt P.d P.over (omega (zz, h.0, h.1))) (lean (scaled P.d t) S-left) ∙ seen_P t P

    -- at e: its left side
    left_of_e : (t : Segment) → Known t → below_end (scaled P.d t) S-left ≡ below_left t e
    unfolding below_end below_left
    left_of_e t k =
        let m = k.0.0 in
        ap (λ a. a && lower (against (scaled P.d t) (spot (onto e P))) (lean S-left (scaled P.d t))) (reaches-scaled P.d P.over e.a.x.0 t)
        ∙ and_same (reaches e.a.x.0 t) (λ a.
        let h = reaches_of e.a.x.0 t a in
        pierced e t P upr tall lv.low lv.high (place_of m).1 (omega (zz, h.0)) h.1 (omega (zz, h.0, h.1)) (lean S-left (scaled P.d t))
        ∙ sym (up_left_a e t (omega zz) (runs k.1) (place_of m).1 h.0 h.1 (lean_up e t upr tall (omega (zz, h.0, h.1)))))

    pub ray-left : ray w L P ≡ top w L e
    unfolding ray left_side
    ray-left = sym (over-same w (all_map ray_at_P known)) ∙ along w L S-left (at P.d) bal (all_map fair_left known) ∙ over-same w (all_map left_of_e known) ∙ left_is_top w L st bal e i upr tall
