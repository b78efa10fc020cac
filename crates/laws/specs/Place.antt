-- Two segments that are apart, where they share an open interval of x: one is under the other, all along. `Place e t s`
-- says which (s: t is under e), in seven sign patterns; each test of "t is below e" that an end of t or of e allows
-- (`left_A`, `left-S`, `right-Z`, `right-E`) then has the answer s.
-- All of it is one identity, `cut_a` (or `cut_b`, its mirror): the height of t over e at an end of e, from the ends of t.
use Rattle.std.specs.Prelude.{◌≡◌, [], ◌∷◌, Bool, true, false, ◌≢◌, ℤ, pos, neg_ℤ, ◌+ℤ◌, ◌-ℤ◌, ◌*ℤ◌, ◌≤ℤ◌, ◌<ℤ◌}
use Rattle.std.proofs.Common.{sym, inl, inr}
use Rattle.std.specs.Int.Signed.{le_z, lt_z}
use Rattle.whole.specs.Order.{zz, add_is, sub_is, neg_is}
use Rattle.whole.specs.Ring.{reads}
use Rattle.whole.proofs.RingLaws.{ring}
use Rattle.whole.specs.Sign.{Tri, less, same, more}
use Rattle.whole.proofs.SignLaws.{tri, mul_pos, mul_nonneg, mul_pos_neg, mul_nonneg_nonpos, lt_by_contra}
use Rattle.whole.specs.Test.{lt-true, lt-false, le-true, le-false}
use Rattle.whole.proofs.TestLaws.{eq_z-true}
use Rattle.geom.specs.declared.Segment.{Segment}
use Rattle.geom.specs.Plane.{turn}
use Rattle.plane.proofs.TurnsLaws.{turn_self, turn_end}
use Rattle.plane.specs.Apart.{Apart, in_line_lem, off_e, off_f, at_ends, o₁, o₂}
use Rattle.edges.specs.Below.{lean, lower}

-- ---- where t stands to e
pub data Place (e t : Segment) : Bool → Type 0 where
  level : o₁ e t ≡ pos 0 → o₂ e t ≡ pos 0 → o₁ t e ≡ pos 0 → o₂ t e ≡ pos 0 → Place e t false
  over_e : pos 0 <ℤ o₁ e t → pos 0 <ℤ o₂ e t → Place e t false
  under_e : o₁ e t <ℤ pos 0 → o₂ e t <ℤ pos 0 → Place e t true
  up_l : pos 0 <ℤ o₁ t e → pos 0 ≤ℤ o₂ t e → Place e t true
  up_r : pos 0 ≤ℤ o₁ t e → pos 0 <ℤ o₂ t e → Place e t true
  dn_l : o₁ t e <ℤ pos 0 → o₂ t e ≤ℤ pos 0 → Place e t false
  dn_r : o₁ t e ≤ℤ pos 0 → o₂ t e <ℤ pos 0 → Place e t false

abbrev pub Placed : Segment → Segment → Type 0
Placed e t = (s : Bool) × Place e t s

tail_zero : {e t : Segment} → o₁ t e ≡ pos 0 → o₂ t e ≢ pos 0 → Tri (o₂ t e) (pos 0) → Placed e t
tail_zero z n (less k) = (false, dn_r (omega zz) k)
tail_zero z n (same k) = absurd (n k)
tail_zero z n (more k) = (true, up_r (omega zz) k)

head-zero : {e t : Segment} → o₁ t e ≢ pos 0 → o₂ t e ≡ pos 0 → Tri (o₁ t e) (pos 0) → Placed e t
head-zero n z (less k) = (false, dn_l k (omega zz))
head-zero n z (same k) = absurd (n k)
head-zero n z (more k) = (true, up_l k (omega zz))

pub placed : {e t : Segment} → Apart e t → Placed e t
placed (in_line_lem p q r s h) = (false, level p q r s)
placed (off_e (inl h)) = (false, over_e h.0 h.1)
placed (off_e (inr h)) = (true, under_e h.0 h.1)
placed (off_f (inl h)) = let k = h.1 in (true, up_l h.0 (omega zz))
placed (off_f (inr h)) = let k = h.1 in (false, dn_l h.0 (omega zz))
placed {e} {t} (at_ends h (inl k)) = tail_zero k.0 k.1 (tri (o₂ t e) (pos 0))
placed {e} {t} (at_ends h (inr k)) = head-zero k.0 k.1 (tri (o₁ t e) (pos 0))

pub placed_self : (e : Segment) → Placed e e
placed_self e = (false, level (turn_self e.a e.b) (turn_end e.a e.b) (turn_self e.a e.b) (turn_end e.a e.b))

-- ---- the identities
pub cut_a : (e t : Segment) → (t.b.x.0 -ℤ e.a.x.0) *ℤ o₁ e t +ℤ (e.a.x.0 -ℤ t.a.x.0) *ℤ o₂ e t ≡ neg_ℤ ((e.b.x.0 -ℤ e.a.x.0) *ℤ o₁ t e)
unfolding turn
cut_a e t = ring (e.a.x.0 ∷ e.a.y.0 ∷ e.b.x.0 ∷ e.b.y.0 ∷ t.a.x.0 ∷ t.a.y.0 ∷ t.b.x.0 ∷ t.b.y.0 ∷ []) (search reads depth 20 fits 5000) tt

pub cut_b : (e t : Segment) → (t.b.x.0 -ℤ e.b.x.0) *ℤ o₁ e t +ℤ (e.b.x.0 -ℤ t.a.x.0) *ℤ o₂ e t ≡ neg_ℤ ((e.b.x.0 -ℤ e.a.x.0) *ℤ o₂ t e)
unfolding turn
cut_b e t = ring (e.a.x.0 ∷ e.a.y.0 ∷ e.b.x.0 ∷ e.b.y.0 ∷ t.a.x.0 ∷ t.a.y.0 ∷ t.b.x.0 ∷ t.b.y.0 ∷ []) (search reads depth 20 fits 5000) tt

pub lean_is : (t e : Segment) → lean t e ≡ o₂ t e -ℤ o₁ t e
unfolding turn lean
lean_is t e = ring (e.a.x.0 ∷ e.a.y.0 ∷ e.b.x.0 ∷ e.b.y.0 ∷ t.a.x.0 ∷ t.a.y.0 ∷ t.b.x.0 ∷ t.b.y.0 ∷ []) (search reads depth 20 fits 5000) tt

pub lean-neg : (t e : Segment) → lean e t ≡ o₁ t e -ℤ o₂ t e
unfolding turn lean
lean-neg t e = ring (e.a.x.0 ∷ e.a.y.0 ∷ e.b.x.0 ∷ e.b.y.0 ∷ t.a.x.0 ∷ t.a.y.0 ∷ t.b.x.0 ∷ t.b.y.0 ∷ []) (search reads depth 20 fits 5000) tt

-- ---- a weighted sum of two numbers of one sign is not 0
module _ {u v k a b c : ℤ} where
  pub pull_dn : u *ℤ a +ℤ v *ℤ b ≡ neg_ℤ (k *ℤ c) → pos 0 ≤ℤ k → pos 0 <ℤ u → pos 0 ≤ℤ v → pos 0 <ℤ a → pos 0 ≤ℤ b → c <ℤ pos 0
  pull_dn e hk hu hv ha hb = lt_by_contra (λ hc. omega (zz, add_is (u *ℤ a) (v *ℤ b), neg_is (k *ℤ c), mul_pos hu ha, mul_nonneg hv hb, mul_nonneg hk hc))

  pub pull_dn' : u *ℤ a +ℤ v *ℤ b ≡ neg_ℤ (k *ℤ c) → pos 0 ≤ℤ k → pos 0 ≤ℤ u → pos 0 <ℤ v → pos 0 ≤ℤ a → pos 0 <ℤ b → c <ℤ pos 0
  pull_dn' e hk hu hv ha hb = lt_by_contra (λ hc. omega (zz, add_is (u *ℤ a) (v *ℤ b), neg_is (k *ℤ c), mul_nonneg hu ha, mul_pos hv hb, mul_nonneg hk hc))

  pub pull_up : u *ℤ a +ℤ v *ℤ b ≡ neg_ℤ (k *ℤ c) → pos 0 ≤ℤ k → pos 0 <ℤ u → pos 0 ≤ℤ v → a <ℤ pos 0 → b ≤ℤ pos 0 → pos 0 <ℤ c
  pull_up e hk hu hv ha hb = lt_by_contra (λ hc. omega (zz, add_is (u *ℤ a) (v *ℤ b), neg_is (k *ℤ c), mul_pos_neg hu ha, mul_nonneg_nonpos hv hb, mul_nonneg_nonpos hk hc))

  pub pull_up' : u *ℤ a +ℤ v *ℤ b ≡ neg_ℤ (k *ℤ c) → pos 0 ≤ℤ k → pos 0 ≤ℤ u → pos 0 <ℤ v → a ≤ℤ pos 0 → b <ℤ pos 0 → pos 0 <ℤ c
  pull_up' e hk hu hv ha hb = lt_by_contra (λ hc. omega (zz, add_is (u *ℤ a) (v *ℤ b), neg_is (k *ℤ c), mul_nonneg_nonpos hu ha, mul_pos_neg hv hb, mul_nonneg_nonpos hk hc))

-- ---- the test of what lies lower
pub lower-true : {h s : ℤ} → pos 0 ≤ℤ h → (h ≡ pos 0 → pos 0 <ℤ s) → lower h s ≡ true
unfolding lower
lower-true {h} {s} p f = go (tri (pos 0) h)
  where
    go : Tri (pos 0) h → lower h s ≡ true
    go (less q) = rw (lt-true q)
    go (same q) = let z : h ≤ℤ pos 0 = omega zz in rw (lt-false z, eq_z-true (sym q), lt-true (f (sym q)))
    go (more q) = let z : ⊥ = omega zz in absurd z

pub lower-false : {h s : ℤ} → h ≤ℤ pos 0 → (h ≡ pos 0 → s ≤ℤ pos 0) → lower h s ≡ false
unfolding lower
lower-false {h} {s} p f = go (tri (pos 0) h)
  where
    go : Tri (pos 0) h → lower h s ≡ false
    go (less q) = let z : ⊥ = omega zz in absurd z
    go (same q) = rw (lt-false p, eq_z-true (sym q), lt-false (f (sym q)))
    go (more q) = rw (lt-false p, le-false q, le-true p)

-- ---- the four tests
pub gap : (p q : ℤ) → p <ℤ q → pos 0 <ℤ (q -ℤ p)
gap p q h = omega (zz, sub_is q p)

pub gap≤ : (p q : ℤ) → p ≤ℤ q → pos 0 ≤ℤ (q -ℤ p)
gap≤ p q h = omega (zz, sub_is q p)

pub weak : {c : ℤ} → pos 0 <ℤ c → pos 0 ≤ℤ c
weak h = omega zz

pub weak⁻ : {c : ℤ} → c <ℤ pos 0 → c ≤ℤ pos 0
weak⁻ h = omega zz

flat : {c : ℤ} → c ≡ pos 0 → pos 0 ≤ℤ c
flat h = omega zz

flat⁻ : {c : ℤ} → c ≡ pos 0 → c ≤ℤ pos 0
flat⁻ h = omega zz

-- a height that is settled settles the test, whatever the slope
lower-yes : {h : ℤ} (s : ℤ) → pos 0 <ℤ h → lower h s ≡ true
lower-yes {h} s p = lower-true (weak p) (λ e. let z : ⊥ = omega zz in absurd z)

lower_no : {h : ℤ} (s : ℤ) → h <ℤ pos 0 → lower h s ≡ false
lower_no {h} s p = lower-false (weak⁻ p) (λ e. let z : ⊥ = omega zz in absurd z)

module _ (e t : Segment) (run : e.a.x.0 ≤ℤ e.b.x.0) (runs : t.a.x.0 ≤ℤ t.b.x.0) where
  -- t is alive at e.a: its height there
  pub left_A : {s : Bool} → Place e t s → t.a.x.0 ≤ℤ e.a.x.0 → e.a.x.0 <ℤ t.b.x.0 → lower (o₁ t e) (lean t e) ≡ s
  left_A (level p q r s) h k = lower-false (omega zz) (λ z. omega (zz, lean_is t e, sub_is (o₂ t e) (o₁ t e)))
  left_A (over_e p q) h k = lower_no (lean t e) (pull_dn (cut_a e t) (gap≤ e.a.x.0 e.b.x.0 run) (gap e.a.x.0 t.b.x.0 k) (gap≤ t.a.x.0 e.a.x.0 h) p (weak q))
  left_A (under_e p q) h k = lower-yes (lean t e) (pull_up (cut_a e t) (gap≤ e.a.x.0 e.b.x.0 run) (gap e.a.x.0 t.b.x.0 k) (gap≤ t.a.x.0 e.a.x.0 h) p (weak⁻ q))
  left_A (up_l p q) h k = lower-yes (lean t e) p
  left_A (up_r p q) h k = lower-true p (λ z. omega (zz, lean_is t e, sub_is (o₂ t e) (o₁ t e)))
  left_A (dn_l p q) h k = lower_no (lean t e) p
  left_A (dn_r p q) h k = lower-false p (λ z. omega (zz, lean_is t e, sub_is (o₂ t e) (o₁ t e)))

  -- t reaches e.b: its height there
  pub right-Z : {s : Bool} → Place e t s → t.a.x.0 <ℤ e.b.x.0 → e.b.x.0 ≤ℤ t.b.x.0 → lower (o₂ t e) (lean e t) ≡ s
  right-Z (level p q r s) h k = lower-false (omega zz) (λ z. omega (zz, lean-neg t e, sub_is (o₁ t e) (o₂ t e)))
  right-Z (over_e p q) h k = lower_no (lean e t) (pull_dn' (cut_b e t) (gap≤ e.a.x.0 e.b.x.0 run) (gap≤ e.b.x.0 t.b.x.0 k) (gap t.a.x.0 e.b.x.0 h) (weak p) q)
  right-Z (under_e p q) h k = lower-yes (lean e t) (pull_up' (cut_b e t) (gap≤ e.a.x.0 e.b.x.0 run) (gap≤ e.b.x.0 t.b.x.0 k) (gap t.a.x.0 e.b.x.0 h) (weak⁻ p) q)
  right-Z (up_l p q) h k = lower-true q (λ z. omega (zz, lean-neg t e, sub_is (o₁ t e) (o₂ t e)))
  right-Z (up_r p q) h k = lower-yes (lean e t) q
  right-Z (dn_l p q) h k = lower-false q (λ z. omega (zz, lean-neg t e, sub_is (o₁ t e) (o₂ t e)))
  right-Z (dn_r p q) h k = lower_no (lean e t) q

  -- t begins within e
  pub left-S : {s : Bool} → Place e t s → e.a.x.0 <ℤ t.a.x.0 → t.a.x.0 <ℤ e.b.x.0 → lt_z (o₁ e t) (pos 0) ≡ s
  left-S (level p q r s) h k = lt-false (flat p)
  left-S (over_e p q) h k = lt-false (weak p)
  left-S (under_e p q) h k = lt-true p
  left-S (up_l p q) h k = lt-true (pull_dn (cut_a t e) (gap≤ t.a.x.0 t.b.x.0 runs) (gap t.a.x.0 e.b.x.0 k) (weak (gap e.a.x.0 t.a.x.0 h)) p q)
  left-S (up_r p q) h k = lt-true (pull_dn' (cut_a t e) (gap≤ t.a.x.0 t.b.x.0 runs) (weak (gap t.a.x.0 e.b.x.0 k)) (gap e.a.x.0 t.a.x.0 h) p q)
  left-S (dn_l p q) h k = lt-false (weak (pull_up (cut_a t e) (gap≤ t.a.x.0 t.b.x.0 runs) (gap t.a.x.0 e.b.x.0 k) (weak (gap e.a.x.0 t.a.x.0 h)) p q))
  left-S (dn_r p q) h k = lt-false (weak (pull_up' (cut_a t e) (gap≤ t.a.x.0 t.b.x.0 runs) (weak (gap t.a.x.0 e.b.x.0 k)) (gap e.a.x.0 t.a.x.0 h) p q))

  -- t ends within e
  pub right-E : {s : Bool} → Place e t s → e.a.x.0 <ℤ t.b.x.0 → t.b.x.0 <ℤ e.b.x.0 → lt_z (o₂ e t) (pos 0) ≡ s
  right-E (level p q r s) h k = lt-false (flat q)
  right-E (over_e p q) h k = lt-false (weak q)
  right-E (under_e p q) h k = lt-true q
  right-E (up_l p q) h k = lt-true (pull_dn (cut_b t e) (gap≤ t.a.x.0 t.b.x.0 runs) (gap t.b.x.0 e.b.x.0 k) (weak (gap e.a.x.0 t.b.x.0 h)) p q)
  right-E (up_r p q) h k = lt-true (pull_dn' (cut_b t e) (gap≤ t.a.x.0 t.b.x.0 runs) (weak (gap t.b.x.0 e.b.x.0 k)) (gap e.a.x.0 t.b.x.0 h) p q)
  right-E (dn_l p q) h k = lt-false (weak (pull_up (cut_b t e) (gap≤ t.a.x.0 t.b.x.0 runs) (gap t.b.x.0 e.b.x.0 k) (weak (gap e.a.x.0 t.b.x.0 h)) p q))
  right-E (dn_r p q) h k = lt-false (weak (pull_up' (cut_b t e) (gap≤ t.a.x.0 t.b.x.0 runs) (weak (gap t.b.x.0 e.b.x.0 k)) (gap e.a.x.0 t.b.x.0 h) p q))

  -- e upright: the height of t at its ends, on the left
  pub up_left_a : {s : Bool} → Place e t s → t.a.x.0 <ℤ e.a.x.0 → e.a.x.0 ≤ℤ t.b.x.0 → pos 0 <ℤ lean t e → le_z (pos 0) (o₁ t e) ≡ s
  up_left_a (level p q r s) h k l = let c : ⊥ = omega (zz, lean_is t e, sub_is (o₂ t e) (o₁ t e)) in absurd c
  up_left_a (over_e p q) h k l = le-false (pull_dn' (cut_a e t) (gap≤ e.a.x.0 e.b.x.0 run) (gap≤ e.a.x.0 t.b.x.0 k) (gap t.a.x.0 e.a.x.0 h) (weak p) q)
  up_left_a (under_e p q) h k l = le-true (weak (pull_up' (cut_a e t) (gap≤ e.a.x.0 e.b.x.0 run) (gap≤ e.a.x.0 t.b.x.0 k) (gap t.a.x.0 e.a.x.0 h) (weak⁻ p) q))
  up_left_a (up_l p q) h k l = le-true (weak p)
  up_left_a (up_r p q) h k l = le-true p
  up_left_a (dn_l p q) h k l = le-false p
  up_left_a (dn_r p q) h k l = let z : o₁ t e <ℤ pos 0 = omega (zz, lean_is t e, sub_is (o₂ t e) (o₁ t e)) in le-false z

  pub up_left_b : {s : Bool} → Place e t s → t.a.x.0 <ℤ e.b.x.0 → e.b.x.0 ≤ℤ t.b.x.0 → pos 0 <ℤ lean t e → lt_z (pos 0) (o₂ t e) ≡ s
  up_left_b (level p q r s) h k l = lt-false (flat⁻ s)
  up_left_b (over_e p q) h k l = lt-false (weak⁻ (pull_dn' (cut_b e t) (gap≤ e.a.x.0 e.b.x.0 run) (gap≤ e.b.x.0 t.b.x.0 k) (gap t.a.x.0 e.b.x.0 h) (weak p) q))
  up_left_b (under_e p q) h k l = lt-true (pull_up' (cut_b e t) (gap≤ e.a.x.0 e.b.x.0 run) (gap≤ e.b.x.0 t.b.x.0 k) (gap t.a.x.0 e.b.x.0 h) (weak⁻ p) q)
  up_left_b (up_l p q) h k l = let z : pos 0 <ℤ o₂ t e = omega (zz, lean_is t e, sub_is (o₂ t e) (o₁ t e)) in lt-true z
  up_left_b (up_r p q) h k l = lt-true q
  up_left_b (dn_l p q) h k l = lt-false q
  up_left_b (dn_r p q) h k l = lt-false (weak⁻ q)

  -- and at e.b on the right
  pub up_B : {s : Bool} → Place e t s → t.a.x.0 ≤ℤ e.b.x.0 → e.b.x.0 <ℤ t.b.x.0 → pos 0 <ℤ lean t e → lt_z (pos 0) (o₂ t e) ≡ s
  up_B (level p q r s) h k l = lt-false (flat⁻ s)
  up_B (over_e p q) h k l = lt-false (weak⁻ (pull_dn (cut_b e t) (gap≤ e.a.x.0 e.b.x.0 run) (gap e.b.x.0 t.b.x.0 k) (gap≤ t.a.x.0 e.b.x.0 h) p (weak q)))
  up_B (under_e p q) h k l = lt-true (pull_up (cut_b e t) (gap≤ e.a.x.0 e.b.x.0 run) (gap e.b.x.0 t.b.x.0 k) (gap≤ t.a.x.0 e.b.x.0 h) p (weak⁻ q))
  up_B (up_l p q) h k l = let z : pos 0 <ℤ o₂ t e = omega (zz, lean_is t e, sub_is (o₂ t e) (o₁ t e)) in lt-true z
  up_B (up_r p q) h k l = lt-true q
  up_B (dn_l p q) h k l = lt-false q
  up_B (dn_r p q) h k l = lt-false (weak⁻ q)
