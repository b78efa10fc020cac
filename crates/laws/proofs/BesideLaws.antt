-- Rays beside an edge e that is not upright, anywhere along it: where no other edge meets the upright stretch between e and P, the ray's count at P is the
-- top of e if P lies over e, and its bottom if P lies under e. At the foot Q of P on e the count is the bottom (`anywhere`). P and Q have the
-- same edges in their column, and their rays differ in those between them: in e alone, or in none.
use Rattle.std.specs.Prelude.{◌≡◌, List, Bool, true, false, ◌⊎◌, ℤ, ◌-ℤ◌, ◌*ℤ◌, ◌≤ℤ◌, ◌<ℤ◌}
use Rattle.std.proofs.Math.Path.{refl, sym, ap, ap₂}
use Rattle.std.proofs.Common.{◌∙◌, subst, inl, inr}
use Rattle.std.proofs.Math.Bool.{not, ◌&&◌}
use Rattle.std.proofs.Math.IntN.{pos, ◌+ℤ◌}
use Rattle.std.specs.Int.Signed.{lt_z}
use Rattle.whole.specs.Order.{zz, add_is, sub_is, neg_is}
use Rattle.whole.proofs.SignLaws.{lt_or_le, le_by_contra, mul_pos, mul_nonneg, mul_nonneg_nonpos, mul_pos_neg, pos_right}
use Rattle.whole.specs.Sum.{ind, In}
use Rattle.whole.proofs.SumLaws.{all_of, all_map, all_both, over-same, over-one}
use Rattle.plane.specs.Scaled.{scale-lt, unscale_lt}
use Rattle.whole.specs.Test.{lt-true, lt-false, le-true, lt_gt, lt-eq_back}
use Rattle.whole.proofs.TestLaws.{of_true, and_l, and_r, and_same, lt_of, lt_not}
use Rattle.geom.specs.declared.Segment.{Segment}
use Rattle.geom.specs.Off.{Off, cross, On}
use Rattle.plane.specs.Apart.{Apart}
use Rattle.segm.specs.Balance.{Balanced}
use Rattle.scan.specs.Masks.{bottom, top}
use Rattle.laws.specs.Ray.{alive_at, crossed, ray}
use Rattle.laws.specs.Settled.{Settled, Meets, meets_in, only}
use Rattle.laws.specs.Mid.{Inside}
use Rattle.laws.proofs.MidLaws.{anywhere}
use Rattle.laws.specs.Foot.{le-scaled, lt-scaled, u, v, foot, foot-column, foot-height, foot-line, seen, lift, foot_x, foot_d, begun, still, some_t, on_t, run_t}
use Rattle.laws.specs.Beside.{Beside, Between, over, under}

module _ (e : Segment) (P : Off) (past : (P.d *ℤ e.a.x.0) <ℤ P.X) (short : P.X <ℤ (P.d *ℤ e.b.x.0)) where
  run : e.a.x.0 <ℤ e.b.x.0
  run = unscale_lt P.d P.over (omega zz)

  wide : pos 0 <ℤ (e.b.x.0 -ℤ e.a.x.0)
  wide = omega (zz, run, sub_is e.b.x.0 e.a.x.0)

  some : pos 0 <ℤ (v e P +ℤ u e P)
  some = omega (zz, add_is (v e P) (u e P), sub_is P.X (P.d *ℤ e.a.x.0), sub_is (P.d *ℤ e.b.x.0) P.X)

  abbrev Q : Off
  Q = foot e P some

  inside : Inside e Q
  inside = record {
    line = foot-line e P some;
    past = rw (foot_x e P, foot_d e P e.a.x.0) (scale-lt (e.b.x.0 -ℤ e.a.x.0) wide past);
    short = rw (foot_x e P, foot_d e P e.b.x.0) (scale-lt (e.b.x.0 -ℤ e.a.x.0) wide short);
  }

  -- the same are alive at P and at Q
  same-alive : (t : Segment) → alive_at Q t ≡ alive_at P t
  unfolding alive_at
  same-alive t = rw (foot_x e P, foot_d e P t.a.x.0, foot_d e P t.b.x.0)
      (ap₂ ◌&&◌ (le-scaled (e.b.x.0 -ℤ e.a.x.0) (P.d *ℤ t.a.x.0) P.X wide) (lt-scaled (e.b.x.0 -ℤ e.a.x.0) P.X (P.d *ℤ t.b.x.0) wide))

  own_foot : lt_z (pos 0) (cross e Q) ≡ false
  own_foot = lt-eq_back {a = pos 0} {b = cross e Q} (foot-line e P some)

-- t between e and P is seen so from its foot
module _ (t : Segment) (P : Off) (h : (P.d *ℤ t.a.x.0) ≤ℤ P.X) (k : P.X <ℤ (P.d *ℤ t.b.x.0)) where
  hits-over : (e : Segment) (some : pos 0 <ℤ (v e P +ℤ u e P)) → cross t (foot e P some) ≤ℤ pos 0 → pos 0 ≤ℤ cross t P → Between e P (foot t P (some_t t P h k))
  hits-over e some a b = over (omega (zz, seen e t P some (some_t t P h k), neg_is (cross t (foot e P some))))
      (omega (zz, foot-height t P (some_t t P h k), sub_is (P.Y *ℤ (foot t P (some_t t P h k)).d) ((foot t P (some_t t P h k)).Y *ℤ P.d), mul_nonneg {a = P.d} {b = cross t P} (omega (zz, P.over)) b))

  hits-under : (e : Segment) (some : pos 0 <ℤ (v e P +ℤ u e P)) → pos 0 ≤ℤ cross t (foot e P some) → cross t P ≤ℤ pos 0 → Between e P (foot t P (some_t t P h k))
  hits-under e some a b = under (omega (zz, seen e t P some (some_t t P h k), neg_is (cross t (foot e P some))))
      (omega (zz, foot-height t P (some_t t P h k), sub_is (P.Y *ℤ (foot t P (some_t t P h k)).d) ((foot t P (some_t t P h k)).Y *ℤ P.d), mul_nonneg_nonpos {a = P.d} {b = cross t P} (omega (zz, P.over)) b))

-- ---- the theorem
in_two : (p q : Bool) → (q ≡ true → p ≡ true) → ind p ≡ ind q +ℤ ind (p && not q)
in_two true true f = refl
in_two true false f = refl
in_two false true f = absurd (of_true (f refl))
in_two false false f = refl

no_two : (a c d : Bool) → (a ≡ true → c ≡ true → d ≡ false → ⊥) → ((a && c) && not (a && d)) ≡ false
no_two false c d f = refl
no_two true false d f = refl
no_two true true true f = refl
no_two true true false f = absurd (f refl refl refl)

module _ (w : Segment → ℤ) (L : List Segment) (st : Settled L) (bal : Balanced w L) (e : Segment) (i : In e L) (P : Off) (b : Beside L e P) where
  abbrev foot_e : Off
  foot_e = Q e P b.past b.short

  alive_e : alive_at P e ≡ true
  unfolding alive_at
  alive_e = rw (le-true {a = P.d *ℤ e.a.x.0} {b = P.X} (omega (zz, b.past)), lt-true b.short)

  at_foot : bottom w L e ≡ ray w L foot_e
  at_foot = anywhere w L st bal e i (run e P b.past b.short) foot_e (inside e P b.past b.short)

  crossed-foot : (t : Segment) → crossed foot_e t ≡ (alive_at P t && lt_z (pos 0) (cross t foot_e))
  unfolding crossed
  crossed-foot t = ap (λ a. a && lt_z (pos 0) (cross t foot_e)) (same-alive e P b.past b.short t)

  module _ (up : pos 0 <ℤ cross e P) where
    -- crossed from P, and not from the foot
    more_so : Segment → Bool
    more_so t = crossed P t && not (crossed foot_e t)

    from_foot : (t : Segment) → crossed foot_e t ≡ true → crossed P t ≡ true
    unfolding crossed
    from_foot t c =
        let A = alive_at P t in
        let B = lt_z (pos 0) (cross t foot_e) in
        let k = sym (crossed-foot t) ∙ c in
        let a = and_l A B k in
        let h : pos 0 <ℤ cross t foot_e = lt_of (and_r A B k) in
        let r = run_t t P (begun P t a) (still P t a) in
        let z : pos 0 <ℤ cross t P = pos_right (wide e P b.past b.short) (omega (zz, lift e t P (some e P b.past b.short), add_is ((t.b.x.0 -ℤ t.a.x.0) *ℤ cross e P) (cross t foot_e), mul_pos r up)) in
        rw (a, lt-true z)

    e_crossed : crossed P e ≡ true
    unfolding crossed
    e_crossed = rw (alive_e, lt-true up)

    e_more : more_so e ≡ true
    unfolding more_so
    e_more = rw (e_crossed, crossed-foot e, alive_e, own_foot e P b.past b.short)

    no_more : (t : Segment) → ((Z : Off) → On t Z → P.X *ℤ Z.d ≡ Z.X *ℤ P.d → Between e P Z → ⊥) → more_so t ≡ false
    unfolding more_so crossed
    no_more t f = ap (λ q. crossed P t && not q) (crossed-foot t) ∙ no_two (alive_at P t) (lt_z (pos 0) (cross t P)) (lt_z (pos 0) (cross t foot_e)) (λ a c d.
        let h = begun P t a in
        let k = still P t a in
        let n : pos 0 <ℤ cross t P = lt_of c in
        f (foot t P (some_t t P h k)) (on_t t P h k) (foot-column t P (some_t t P h k)) (hits-over t P h k e (some e P b.past b.short) (lt_not d) (omega zz)))

    pub ray-over : ray w L P ≡ top w L e
    unfolding ray top more_so
    ray-over = over-one w (crossed P) (crossed foot_e) more_so (all_of L (λ t. in_two (crossed P t) (crossed foot_e t) (from_foot t)))
        ∙ ap₂ ◌+ℤ◌ (sym at_foot) (only w more_so e e_more (all_map (λ t c n. no_more t (c n)) b.clear) i st.apart)

  module _ (dn : cross e P <ℤ pos 0) where
    same_own : crossed P e ≡ crossed foot_e e
    unfolding crossed
    same_own = rw (crossed-foot e, alive_e, own_foot e P b.past b.short, lt_gt dn) refl

    same-other : (t : Segment) → ((Z : Off) → On t Z → P.X *ℤ Z.d ≡ Z.X *ℤ P.d → Between e P Z → ⊥) → crossed P t ≡ crossed foot_e t
    unfolding crossed
    same-other t f = and_same (alive_at P t) (λ a. go (begun P t a) (still P t a) (lt_or_le (pos 0) (cross t P))) ∙ sym (crossed-foot t)
      where
        go : (P.d *ℤ t.a.x.0) ≤ℤ P.X → P.X <ℤ (P.d *ℤ t.b.x.0) → (pos 0 <ℤ cross t P) ⊎ (cross t P ≤ℤ pos 0) → lt_z (pos 0) (cross t P) ≡ lt_z (pos 0) (cross t foot_e)
        go h k (inl l) =
            let z : pos 0 <ℤ cross t foot_e = omega (
              zz,
              lift e t P (some e P b.past b.short),
              add_is ((t.b.x.0 -ℤ t.a.x.0) *ℤ cross e P) (cross t foot_e),
              mul_pos_neg (run_t t P h k) dn,
              mul_pos (wide e P b.past b.short) l,
            ) in
            lt-true l ∙ sym (lt-true z)
        go h k (inr l) =
            let z : cross t foot_e ≤ℤ pos 0 = le_by_contra (λ n. f (foot t P (some_t t P h k)) (on_t t P h k) (foot-column t P (some_t t P h k)) (hits-under t P h k e (some e P b.past b.short) (omega zz) l)) in
            lt-false l ∙ sym (lt-false z)

    same : (t : Segment) → Meets e t → (Apart e t → (Z : Off) → On t Z → P.X *ℤ Z.d ≡ Z.X *ℤ P.d → Between e P Z → ⊥) → crossed P t ≡ crossed foot_e t
    same t (inl q) f = subst (λ r. crossed P r ≡ crossed foot_e r) q same_own
    same t (inr n) f = same-other t (f n)

    pub ray-under : ray w L P ≡ bottom w L e
    unfolding ray
    ray-under = over-same w (all_map (λ t m. same t m.0 m.1) (all_both (meets_in i st.apart) b.clear)) ∙ sym at_foot
