-- One test for "t is below e", upright e or not: against a t that runs right an upright e has the greater slope, so that
-- "height at most a.y" is "height under a.y, or equal with the lesser slope".
use Rattle.std.specs.Prelude.{◌≡◌, List, [], ◌∷◌, Bool, true, false, cond, ◌&&◌, ℤ, pos, ◌+ℤ◌, ◌-ℤ◌, ◌*ℤ◌, ◌<ℤ◌}
use Rattle.std.proofs.Common.{◌∙◌, ap}
use Rattle.std.proofs.Math.IntN.{*ℤ-zero}
use Rattle.std.specs.Int.Signed.{le_z, lt_z}
use Rattle.whole.specs.Order.{zz, add_is, sub_is}
use Rattle.whole.specs.Ring.{reads}
use Rattle.whole.proofs.RingLaws.{ring}
use Rattle.whole.specs.Sign.{Tri, less, same, more}
use Rattle.whole.proofs.SignLaws.{tri, mul_pos}
use Rattle.whole.specs.Sum.{Over}
use Rattle.whole.proofs.SumLaws.{all_of, over-same}
use Rattle.whole.specs.Test.{tests}
use Rattle.whole.proofs.TestLaws.{and_l, and_r, and_same, lt_of, le_of, eq_z-true, eq_z-false}
use Rattle.geom.specs.declared.Segment.{Segment}
use Rattle.geom.specs.Plane.{against, Before, by_x, by_y, upright}
use Rattle.edges.specs.Below.{alive, lean, lower, under, below}
use Rattle.scan.specs.Masks.{bottom}

-- ---- by the sign of the height
pub lower-level : {h : ℤ} (s : ℤ) → h ≡ pos 0 → lower h s ≡ lt_z (pos 0) s
unfolding lower
lower-level {h} s z = simp tests

pub lower_up : {h : ℤ} (s : ℤ) → pos 0 <ℤ h → lower h s ≡ true
unfolding lower
lower_up {h} s z = simp tests

pub lower-dn : {h : ℤ} (s : ℤ) → h <ℤ pos 0 → lower h s ≡ false
unfolding lower
lower-dn {h} s z = simp tests

-- ---- an upright e
lean-flat : (e t : Segment) → lean t e +ℤ (t.b.y.0 -ℤ t.a.y.0) *ℤ (e.b.x.0 -ℤ e.a.x.0) ≡ (t.b.x.0 -ℤ t.a.x.0) *ℤ (e.b.y.0 -ℤ e.a.y.0)
unfolding lean
lean-flat e t = ring (e.a.x.0 ∷ e.a.y.0 ∷ e.b.x.0 ∷ e.b.y.0 ∷ t.a.x.0 ∷ t.a.y.0 ∷ t.b.x.0 ∷ t.b.y.0 ∷ []) (search reads depth 20 fits 5000) tt

pub lean_up : (e t : Segment) → e.a.x.0 ≡ e.b.x.0 → e.a.y.0 <ℤ e.b.y.0 → t.a.x.0 <ℤ t.b.x.0 → pos 0 <ℤ lean t e
lean_up e t u up h =
    let n = mul_pos {a = t.b.x.0 -ℤ t.a.x.0} {b = e.b.y.0 -ℤ e.a.y.0} (omega (zz, sub_is t.b.x.0 t.a.x.0)) (omega (zz, sub_is e.b.y.0 e.a.y.0)) in
    let z : e.b.x.0 -ℤ e.a.x.0 ≡ pos 0 = omega (zz, sub_is e.b.x.0 e.a.x.0) in
    let y : (t.b.y.0 -ℤ t.a.y.0) *ℤ (e.b.x.0 -ℤ e.a.x.0) ≡ pos 0 = ap (λ s. (t.b.y.0 -ℤ t.a.y.0) *ℤ s) z ∙ *ℤ-zero (t.b.y.0 -ℤ t.a.y.0) in
    omega (zz, lean-flat e t, add_is (lean t e) ((t.b.y.0 -ℤ t.a.y.0) *ℤ (e.b.x.0 -ℤ e.a.x.0)))

under-upright : (e t : Segment) → pos 0 <ℤ lean t e → le_z (pos 0) (against t e.a) ≡ lower (against t e.a) (lean t e)
under-upright e t l = go (tri (against t e.a) (pos 0))
  where
    go : Tri (against t e.a) (pos 0) → le_z (pos 0) (against t e.a) ≡ lower (against t e.a) (lean t e)
    go (less z) = simp (tests, lower-dn (lean t e) z)
    go (same z) = simp (tests, lower-level (lean t e) z)
    go (more z) = simp (tests, lower_up (lean t e) z)

-- THE LAW: for a t that runs right
pub under_is : (e t : Segment) → Before e.a e.b → t.a.x.0 <ℤ t.b.x.0 → under t e ≡ lower (against t e.a) (lean t e)
unfolding under upright
under_is e t (by_x h) r = let n = eq_z-false {a = e.a.x.0} {b = e.b.x.0} (λ q. omega zz) in ap (λ c. cond c (le_z (pos 0) (against t e.a)) (lower (against t e.a) (lean t e))) n
under_is e t (by_y u h) r = ap (λ c. cond c (le_z (pos 0) (against t e.a)) (lower (against t e.a) (lean t e))) (eq_z-true u) ∙ under-upright e t (lean_up e t u h r)

-- alive at e.a.x, and lower there
unfoldable pub lower_at : Segment → Segment → Bool
lower_at t e = alive e.a.x.0 t && lower (against t e.a) (lean t e)

pub below_is : (e t : Segment) → Before e.a e.b → below t e ≡ lower_at t e
unfolding below lower_at alive
below_is e t f =
    let A = le_z t.a.x.0 e.a.x.0 in
    let B = lt_z e.a.x.0 t.b.x.0 in
    and_same (A && B) (λ c. let h = le_of {a = t.a.x.0} {b = e.a.x.0} (and_l A B c) in let k = lt_of {a = e.a.x.0} {b = t.b.x.0} (and_r A B c) in under_is e t f (omega zz))

pub bottom_is : (w : Segment → ℤ) (L : List Segment) (e : Segment) → Before e.a e.b → bottom w L e ≡ Over w (λ t. lower_at t e) L
unfolding bottom
bottom_is w L e f = over-same w (all_of L (λ t. below_is e t f))
