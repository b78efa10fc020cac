-- Req 13, second half: the sum on the left side of an upright edge e is its top. What lies below e on the right runs under
-- e.b on the right, what lies below it on the left runs under e.b on the left (nothing meets e within); the two differ, over
-- the column of e.b, by the upright edges that come to e.b or pass it, and in a settled list that is e alone.
use Rattle.std.specs.Prelude.{◌≡◌, List, true, false, ◌&&◌, ◌⊎◌, ℤ, pos, ◌≤ℤ◌, ◌<ℤ◌}
use Rattle.std.proofs.Math.Path.{sym, ap}
use Rattle.std.proofs.Common.{◌∙◌, inl, inr}
use Rattle.std.proofs.Math.Bool.{Bool}
use Rattle.std.specs.Int.Signed.{le_z, lt_z}
use Rattle.whole.specs.Order.{zz, add_is}
use Rattle.whole.specs.Sum.{Over, In}
use Rattle.whole.proofs.SumLaws.{all_of, all_map, all_both, over-same}
use Rattle.whole.specs.Test.{is_true, is_false, tests}
use Rattle.whole.proofs.TestLaws.{and_l, and_r, and_same, lt_of, le_of, eq_z_is}
use Rattle.geom.specs.declared.Point.{Point}
use Rattle.geom.specs.declared.Segment.{Segment}
use Rattle.geom.specs.Plane.{sameZ, Before, by_x, by_y}
use Rattle.plane.specs.Order.{before_irr}
use Rattle.plane.specs.Apart.{UpTo, Apart, o₁, o₂}
use Rattle.segm.specs.Balance.{Balanced}
use Rattle.scan.specs.Masks.{bottom, top}
use Rattle.laws.specs.Sides.{reaches, below_left, left_side}
use Rattle.laws.specs.Points.{then_upto, runs}
use Rattle.laws.specs.Place.{up_left_a, up_left_b}
use Rattle.laws.specs.Settled.{Settled, Meets, meets_in, place_of, only}
use Rattle.laws.specs.Below.{lean_up, bottom_is}
use Rattle.laws.specs.Column.{under-right, under_left, upto}
use Rattle.laws.proofs.ColumnLaws.{columns}
use Rattle.laws.proofs.NodeLaws.{up_each, upright-zero}
use Rattle.laws.proofs.FanLaws.{no_shared}
use Rattle.laws.specs.Foot.{u}

module _ (e : Segment) (u : e.a.x.0 ≡ e.b.x.0) (up : e.a.y.0 <ℤ e.b.y.0) where
  self : upto e.b e ≡ true
  unfolding upto
  self = let k : e.b.y.0 ≤ℤ e.b.y.0 = omega zz in let n : e.b.x.0 ≤ℤ e.b.x.0 = omega zz in simp tests

  -- no other upright edge comes to e.b from below
  other : (t : Segment) → Apart e t → upto e.b t ≡ false
  unfolding upto
  other t m = is_false (λ c. go (is_true c))
    where
      A : Bool
      A = sameZ t.a.x.0 e.b.x.0

      B : Bool
      B = sameZ t.b.x.0 e.b.x.0

      C : Bool
      C = lt_z t.a.y.0 e.b.y.0

      D : Bool
      D = le_z e.b.y.0 t.b.y.0

      no_room : t.a.x.0 ≡ e.b.x.0 → t.b.x.0 ≡ e.b.x.0 → t.a.y.0 <ℤ e.b.y.0 → e.b.y.0 ≤ℤ t.b.y.0 → (UpTo e.b t.a) ⊎ (UpTo t.b e.a) → ⊥
      no_room p q r s (inl l) = before_irr (then_upto (by_y p r) l)
      no_room p q r s (inr (inl l)) = omega (zz, ap (λ (o : Point). o.y.0) l)
      no_room p q r s (inr (inr (by_x l))) = omega zz
      no_room p q r s (inr (inr (by_y k l))) = omega zz

      go : ((A && B) && (C && D)) ≡ true → ⊥
      go c =
          let p = eq_z_is {a = t.a.x.0} {b = e.b.x.0} (and_l A B (and_l (A && B) (C && D) c)) in
          let q = eq_z_is {a = t.b.x.0} {b = e.b.x.0} (and_r A B (and_l (A && B) (C && D) c)) in
          let r = lt_of {a = t.a.y.0} {b = e.b.y.0} (and_l C D (and_r (A && B) (C && D) c)) in
          let s = le_of {a = e.b.y.0} {b = t.b.y.0} (and_r C D (and_r (A && B) (C && D) c)) in
          no_shared m (no_room p q r s)
          (upright-zero e.a e.b t.a u (u ∙ sym p)) (upright-zero e.a e.b t.b u (u ∙ sym q))
          (inl (upright-zero t.a t.b e.a (p ∙ sym q) (p ∙ sym u)))

  left-each : (t : Segment) → Meets e t → Before t.a t.b → below_left t e ≡ under_left e.b t
  unfolding below_left under_left reaches
  left-each t m ft = ap (λ c. (lt_z t.a.x.0 c && le_z c t.b.x.0) && le_z (pos 0) (o₁ t e)) u
      ∙ and_same (lt_z t.a.x.0 e.b.x.0 && le_z e.b.x.0 t.b.x.0) (λ c. go (lt_of (and_l (lt_z t.a.x.0 e.b.x.0) (le_z e.b.x.0 t.b.x.0) c)) (le_of (and_r (lt_z t.a.x.0 e.b.x.0) (le_z e.b.x.0 t.b.x.0) c)))
    where
      go : t.a.x.0 <ℤ e.b.x.0 → e.b.x.0 ≤ℤ t.b.x.0 → le_z (pos 0) (o₁ t e) ≡ lt_z (pos 0) (o₂ t e)
      go h k = let l = lean_up e t u up (omega zz) in up_left_a e t (omega zz) (runs ft) (place_of m).1 (omega zz) (omega zz) l ∙ sym (up_left_b e t (omega zz) (runs ft) (place_of m).1 h k l)

-- Req 13, second half: the sum on the left side is the top
pub left_is_top : (w : Segment → ℤ) (L : List Segment) → Settled L → Balanced w L → (e : Segment) → In e L → e.a.x.0 ≡ e.b.x.0 → e.a.y.0 <ℤ e.b.y.0 → left_side w L e ≡ top w L e
unfolding left_side top
left_is_top w L st bal e i u up =
    let near = all_both (meets_in i st.apart) st.forward in
    omega (
      zz,
      over-same w (all_map (λ t m. left-each e u up t m.0 m.1) near),
      bottom_is w L e (by_y u up),
      over-same w (all_map (λ t m. up_each e t u up m.0 m.1) near),
      columns w L (λ q. q) bal st.forward e.b,
      only w (upto e.b) e (self e u up) (all_of L (other e u up)) i st.apart,
      add_is (Over w (under-right e.b) L) (Over w (upto e.b) L),
      add_is (bottom w L e) (w e),
    )
