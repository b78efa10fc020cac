-- Signs of products, cancelling, bounds; and how to split on the order of two numbers. Prove a sign in three steps: an identity by `ring`, the signs of the
-- products by a law of this file, the rest by `omega zz`:
--     let k = mul-pos {a = b -ℤ a} {b = c} (omega (zz, sub_is b a)) p in omega (zz, sub-mul a b c, sub_is (b *ℤ c) (a *ℤ c))
-- The factors of a product are implicit and are not found by themselves where they are compound: give them by name, as here. `omega` neither reads nor proves
-- a sum of types: split with `tri a b` (less, same, more), `lt_or_le`, or by contradiction (`le_by_contra`, `lt_by_contra`).
use Rattle.std.specs.Prelude.{◌≡◌, [], ◌∷◌, ◌⊎◌, Bool, true, false, not, ℕ, zero, suc, ◌*◌, ◌≤◌, T, ℤ, pos, negsuc, neg_ℤ, nat_abs, ◌+ℤ◌, ◌-ℤ◌, ◌*ℤ◌, ◌≤ℤ◌, ◌<ℤ◌}
use Rattle.std.proofs.Common.{ap, inl, inr, ⊎_elim, mul-le-mul}
use Rattle.std.proofs.Math.IntN.{*ℤ_comm, zero-*ℤ}
use Rattle.std.specs.Int.Signed.{lt_z, lt_z_yes, lt_z_no}
use Rattle.whole.specs.Order.{zz, add_is, sub_is, neg_is}
use Rattle.whole.specs.Ring.{reads}
use Rattle.whole.proofs.RingLaws.{ring}
use Rattle.whole.specs.Sign.{Tri, abs-mul, less, same, more}

-- ---- splitting on the order

pub lt_or_le : (a b : ℤ) → (a <ℤ b) ⊎ (b ≤ℤ a)
lt_or_le a b = go (lt_z a b) lt_z_yes lt_z_no
  where
    go : (t : Bool) → (T t → a <ℤ b) → (T (not t) → b ≤ℤ a) → (a <ℤ b) ⊎ (b ≤ℤ a)
    go true f g = inl (f tt)
    go false f g = inr (g tt)

-- by contradiction
pub le_by_contra : {a b : ℤ} → (b <ℤ a → ⊥) → a ≤ℤ b
le_by_contra {a} {b} f = ⊎_elim (λ p. absurd (f p)) (λ q. q) (lt_or_le b a)

pub lt_by_contra : {a b : ℤ} → (b ≤ℤ a → ⊥) → a <ℤ b
lt_by_contra {a} {b} f = ⊎_elim (λ p. p) (λ q. absurd (f q)) (lt_or_le a b)

pub tri : (a b : ℤ) → Tri a b
tri a b = ⊎_elim less (λ p. ⊎_elim more (λ q. same (omega zz)) (lt_or_le b a)) (lt_or_le a b)

-- ---- the sign of a product

pub mul_pos : {a b : ℤ} → pos 0 <ℤ a → pos 0 <ℤ b → pos 0 <ℤ (a *ℤ b)
mul_pos {a = pos zero} {b} p q = let z : ⊥ = omega zz in absurd z
mul_pos {a = pos (suc a)} {b = pos zero} p q = let z : ⊥ = omega zz in absurd z
mul_pos {a = pos (suc a)} {b = pos (suc b)} p q = omega zz
mul_pos {a = pos (suc a)} {b = negsuc b} p q = let z : ⊥ = omega zz in absurd z
mul_pos {a = negsuc a} {b} p q = let z : ⊥ = omega zz in absurd z

pub mul_nonneg : {a b : ℤ} → pos 0 ≤ℤ a → pos 0 ≤ℤ b → pos 0 ≤ℤ (a *ℤ b)
mul_nonneg {a = pos a} {b = pos b} p q = omega zz
mul_nonneg {a = pos a} {b = negsuc b} p q = let z : ⊥ = omega zz in absurd z
mul_nonneg {a = negsuc a} {b} p q = let z : ⊥ = omega zz in absurd z

neg-mul : (a b : ℤ) → neg_ℤ a *ℤ b ≡ neg_ℤ (a *ℤ b)
neg-mul a b = ring (a ∷ b ∷ []) (search reads depth 20 fits 5000) tt

neg-neg : (a b : ℤ) → neg_ℤ a *ℤ neg_ℤ b ≡ a *ℤ b
neg-neg a b = ring (a ∷ b ∷ []) (search reads depth 20 fits 5000) tt

flip : {a : ℤ} → a <ℤ pos 0 → pos 0 <ℤ neg_ℤ a
flip {a} h = omega (zz, neg_is a)

flip≤ : {a : ℤ} → a ≤ℤ pos 0 → pos 0 ≤ℤ neg_ℤ a
flip≤ {a} h = omega (zz, neg_is a)

pub mul-neg_pos : {a b : ℤ} → a <ℤ pos 0 → pos 0 <ℤ b → (a *ℤ b) <ℤ pos 0
mul-neg_pos {a} {b} p q = omega (zz, mul_pos (flip p) q, neg-mul a b, neg_is (a *ℤ b))

pub mul_pos_neg : {a b : ℤ} → pos 0 <ℤ a → b <ℤ pos 0 → (a *ℤ b) <ℤ pos 0
mul_pos_neg {a} {b} p q = rw (*ℤ_comm a b) (mul-neg_pos q p)

pub mul-neg-neg : {a b : ℤ} → a <ℤ pos 0 → b <ℤ pos 0 → pos 0 <ℤ (a *ℤ b)
mul-neg-neg {a} {b} p q = rw (neg-neg a b) at (mul_pos (flip p) (flip q))

pub mul_nonpos_nonneg : {a b : ℤ} → a ≤ℤ pos 0 → pos 0 ≤ℤ b → (a *ℤ b) ≤ℤ pos 0
mul_nonpos_nonneg {a} {b} p q = omega (zz, mul_nonneg (flip≤ p) q, neg-mul a b, neg_is (a *ℤ b))

pub mul_nonneg_nonpos : {a b : ℤ} → pos 0 ≤ℤ a → b ≤ℤ pos 0 → (a *ℤ b) ≤ℤ pos 0
mul_nonneg_nonpos {a} {b} p q = rw (*ℤ_comm a b) (mul_nonpos_nonneg q p)

pub mul_nonpos_nonpos : {a b : ℤ} → a ≤ℤ pos 0 → b ≤ℤ pos 0 → pos 0 ≤ℤ (a *ℤ b)
mul_nonpos_nonpos {a} {b} p q = rw (neg-neg a b) at (mul_nonneg (flip≤ p) (flip≤ q))

pub sq_nonneg : (a : ℤ) → pos 0 ≤ℤ (a *ℤ a)
sq_nonneg a =
    ⊎_elim
    (λ (p : a <ℤ pos 0). let q : a ≤ℤ pos 0 = omega zz in mul_nonpos_nonpos q q)
    (λ p. mul_nonneg p p)
    (lt_or_le a (pos 0))

-- ---- from the product to the factors

pub pos_right : {a b : ℤ} → pos 0 <ℤ a → pos 0 <ℤ (a *ℤ b) → pos 0 <ℤ b
pos_right {a} {b} p h = lt_by_contra (λ q. let k = mul_nonneg_nonpos {a = a} {b = b} (omega zz) q in omega zz)

pub nonneg_right : {a b : ℤ} → pos 0 <ℤ a → pos 0 ≤ℤ (a *ℤ b) → pos 0 ≤ℤ b
nonneg_right {a} {b} p h = le_by_contra (λ q. let k = mul_pos_neg p q in omega zz)

pub neg_right : {a b : ℤ} → pos 0 <ℤ a → (a *ℤ b) <ℤ pos 0 → b <ℤ pos 0
neg_right {a} {b} p h = lt_by_contra (λ q. let k = mul_nonneg {a = a} {b = b} (omega zz) q in omega zz)

-- a product is negative: opposite signs
pub opposite : (a b : ℤ) → (a *ℤ b) <ℤ pos 0 → ((a <ℤ pos 0) × (pos 0 <ℤ b)) ⊎ ((pos 0 <ℤ a) × (b <ℤ pos 0))
opposite a b h =
    ⊎_elim
    (λ p. inl (p, lt_by_contra (λ q. let k = mul_nonpos_nonpos {a = a} {b = b} (omega zz) q in omega zz)))
    (λ p. inr (lt_by_contra (λ q. not_zero (omega zz)), lt_by_contra (λ q. let k = mul_nonneg p q in omega zz)))
    (lt_or_le a (pos 0))
  where
    not_zero : a ≡ pos 0 → ⊥
    not_zero e = omega (zz, h, ap (λ t. t *ℤ b) e, zero-*ℤ b)

-- a product is zero: one factor is
pub zero_product : (a b : ℤ) → a *ℤ b ≡ pos 0 → (a ≡ pos 0) ⊎ (b ≡ pos 0)
zero_product a b e = go (tri a (pos 0)) (tri b (pos 0))
  where
    go : Tri a (pos 0) → Tri b (pos 0) → (a ≡ pos 0) ⊎ (b ≡ pos 0)
    go (same p) s = inl p
    go (less p) (same q) = inr q
    go (more p) (same q) = inr q
    go (less p) (less q) = let z : ⊥ = omega (zz, mul-neg-neg p q) in absurd z
    go (less p) (more q) = let z : ⊥ = omega (zz, mul-neg_pos p q) in absurd z
    go (more p) (less q) = let z : ⊥ = omega (zz, mul_pos_neg p q) in absurd z
    go (more p) (more q) = let z : ⊥ = omega (zz, mul_pos p q) in absurd z

-- ---- order and products

sub-mul : (a b c : ℤ) → (b -ℤ a) *ℤ c ≡ b *ℤ c -ℤ a *ℤ c
sub-mul a b c = ring (a ∷ b ∷ c ∷ []) (search reads depth 20 fits 5000) tt

pub mul_mono : {a b : ℤ} (c : ℤ) → pos 0 ≤ℤ c → a ≤ℤ b → (a *ℤ c) ≤ℤ (b *ℤ c)
mul_mono {a} {b} c p h =
    omega (zz, mul_nonneg {a = b -ℤ a} {b = c} (omega (zz, sub_is b a)) p, sub-mul a b c, sub_is (b *ℤ c) (a *ℤ c))

pub mul_mono_lt : {a b : ℤ} (c : ℤ) → pos 0 <ℤ c → a <ℤ b → (a *ℤ c) <ℤ (b *ℤ c)
mul_mono_lt {a} {b} c p h =
    omega (zz, mul_pos {a = b -ℤ a} {b = c} (omega (zz, sub_is b a)) p, sub-mul a b c, sub_is (b *ℤ c) (a *ℤ c))

pub cancel_le : {a b : ℤ} (c : ℤ) → pos 0 <ℤ c → (a *ℤ c) ≤ℤ (b *ℤ c) → a ≤ℤ b
cancel_le {a} {b} c p h = le_by_contra (λ q. omega (zz, mul_mono_lt c p q))

pub cancel_lt : {a b : ℤ} (c : ℤ) → pos 0 <ℤ c → (a *ℤ c) <ℤ (b *ℤ c) → a <ℤ b
cancel_lt {a} {b} c p h = lt_by_contra (λ q. omega (zz, mul_mono c (omega zz) q))

-- two terms not negative, of sum zero
pub both_zero : {a b : ℤ} → pos 0 ≤ℤ a → pos 0 ≤ℤ b → a +ℤ b ≡ pos 0 → (a ≡ pos 0) × (b ≡ pos 0)
both_zero {a} {b} p q e = (omega (zz, add_is a b), omega (zz, add_is a b))

pub abs-mul-le : (a b : ℤ) {m n : ℕ} → nat_abs a ≤ m → nat_abs b ≤ n → nat_abs (a *ℤ b) ≤ m * n
abs-mul-le a b p q = rw (abs-mul a b) (mul-le-mul p q)
