-- A sweep need only look at what is live: an edge that lies below e at e.a starts at e.a or before and ends right of it. So the sum over the live edges,
-- with the defining test, is the defining sum.
use Rattle.std.specs.Prelude.{◌≡◌, refl, List, [], ◌∷◌, Bool, true, false, cond, ◌&&◌, ℤ, pos, ◌+ℤ◌, ◌-ℤ◌, ◌*ℤ◌, ◌≤ℤ◌, ◌<ℤ◌}
use Rattle.std.proofs.Common.{sym, ◌∙◌}
use Rattle.std.specs.Int.Signed.{le_z, lt_z}
use Rattle.whole.specs.Order.{zz, add_is, sub_is}
use Rattle.whole.specs.Ring.{reads}
use Rattle.whole.proofs.RingLaws.{ring}
use Rattle.whole.proofs.SignLaws.{mul_pos_neg, le_by_contra}
use Rattle.whole.specs.Sum.{Over, keep}
use Rattle.whole.proofs.SumLaws.{all_of, times_none, over-same, over-keep}
use Rattle.whole.specs.Test.{tests}
use Rattle.whole.proofs.TestLaws.{of_true, and_l, and_r, lt_of, le_of}
use Rattle.geom.specs.declared.Segment.{Segment}
use Rattle.geom.specs.Plane.{turn, against, Before, by_x, by_y, upright}
use Rattle.geom.specs.Tests.{fails}
use Rattle.geom.proofs.TestsLaws.{before?}
use Rattle.edges.specs.Below.{alive, lean, lower, under, below, live}
use Rattle.scan.specs.Masks.{bottom}

lower-dn : {h : ℤ} (s : ℤ) → h <ℤ pos 0 → lower h s ≡ false
unfolding lower
lower-dn {h} s z = simp tests

-- at e.a.x what is below e is not over e.a
not_over : (h s : ℤ) (u : Bool) → cond u (le_z (pos 0) h) (lower h s) ≡ true → pos 0 ≤ℤ h
not_over h s true e = le_of e
not_over h s false e = le_by_contra (λ n. of_true (sym (lower-dn s n) ∙ e))

-- so, in the column of e.a, it starts at e.a or below
turn_at_a : (t e : Segment)
    → against t e.a +ℤ (t.b.y.0 -ℤ t.a.y.0) *ℤ (e.a.x.0 -ℤ t.a.x.0) ≡ (t.b.x.0 -ℤ t.a.x.0) *ℤ (e.a.y.0 -ℤ t.a.y.0)
unfolding turn
turn_at_a t e =
    ring (t.a.x.0 ∷ t.a.y.0 ∷ t.b.x.0 ∷ t.b.y.0 ∷ e.a.x.0 ∷ e.a.y.0 ∷ []) (search reads depth 20 fits 5000) tt

started : (t e : Segment) → t.a.x.0 ≡ e.a.x.0 → e.a.x.0 <ℤ t.b.x.0 → pos 0 ≤ℤ against t e.a → t.a.y.0 ≤ℤ e.a.y.0
started t e q k h = le_by_contra (λ n. omega (zz, level, mul_pos_neg {a = X} {b = Y} (omega (zz, sub_is t.b.x.0 t.a.x.0)) (omega (zz, sub_is e.a.y.0 t.a.y.0))))
  where
    X : ℤ
    X = t.b.x.0 -ℤ t.a.x.0

    Y : ℤ
    Y = e.a.y.0 -ℤ t.a.y.0

    none : (a b : ℤ) → a ≡ pos 0 → b *ℤ a ≡ pos 0
    none a b z = rw z (sym (times_none b))

    level : against t e.a ≡ X *ℤ Y
    level =
        let H = t.b.y.0 -ℤ t.a.y.0 in
        let Z = e.a.x.0 -ℤ t.a.x.0 in
        let z : H *ℤ Z ≡ pos 0 = none Z H (omega (zz, sub_is e.a.x.0 t.a.x.0)) in
        omega (zz, turn_at_a t e, add_is (against t e.a) (H *ℤ Z))

pub below-live : (t e : Segment) → below t e ≡ true → live e.a t ≡ true
unfolding below alive under live
below-live t e b = let k = still in rw (fails (before? e.a t.a) late) (simp tests)
  where
    A : Bool
    A = le_z t.a.x.0 e.a.x.0

    B : Bool
    B = lt_z e.a.x.0 t.b.x.0

    begun : t.a.x.0 ≤ℤ e.a.x.0
    begun = le_of (and_l A B (and_l (A && B) (under t e) b))

    still : e.a.x.0 <ℤ t.b.x.0
    still = lt_of (and_r A B (and_l (A && B) (under t e) b))

    height : pos 0 ≤ℤ against t e.a
    height = not_over (against t e.a) (lean t e) (upright e) (and_r (A && B) (under t e) b)

    late : Before e.a t.a → ⊥
    late (by_x h) = omega (zz, begun)
    late (by_y q h) = omega (zz, started t e (sym q) still height)

only-live : (l b : Bool) → (b ≡ true → l ≡ true) → b ≡ (l && b)
only-live true b f = refl
only-live false true f = absurd (of_true (f refl))
only-live false false f = refl

pub live_below : (t e : Segment) → below t e ≡ (live e.a t && below t e)
live_below t e = only-live (live e.a t) (below t e) (below-live t e)

-- the law
pub sweep : (w : Segment → ℤ) (L : List Segment) (e : Segment) → bottom w L e ≡ Over w (λ t. below t e) (keep (live e.a) L)
unfolding bottom
sweep w L e = over-same w (all_of L (λ t. live_below t e)) ∙ sym (over-keep w (live e.a) (λ t. below t e) L)
