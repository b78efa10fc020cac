-- How far sums, differences and products are from 0, and when a number fits a signed width. Bound the distance (`nat_abs`) of the parts, then close:
--     sum_fits w64 a b (omega (arith, p, q)) : SFits w64 (a +ℤ b)        from p : nat_abs a < 2 ^ 31, q : nat_abs b < 2 ^ 31
-- A magnitude is one tighter than a distance: `mag z < n` says -n ≤ z < n. `apart` keeps that: two such numbers differ by less than 2 n, not by 2 n.
-- The ruleset `fit` is for `search`, where the bounds are in reach.
use Rattle.std.specs.Prelude.{◌≡◌, ℕ, ◌+◌, ◌*◌, ◌<◌, ◌≤◌, ◌^◌, ℤ, pos, negsuc, ◌+ℤ◌, ◌-ℤ◌, ◌*ℤ◌, nat_abs}
use Rattle.std.proofs.Common.{ap, ◌∙◌, lt_of_le_of_lt, le_of_lt, mul-le-mul_left, mul-lt-mul_of_pos_right, arith, to_z-of_z, rules}
use Rattle.std.specs.Int.Signed.{mag}
use Rattle.std.specs.Int.{Width, w32, w64}
use mir.Val.{SFits, Fits, hbits, to_z, of_z}
use Rattle.whole.specs.Order.{zz, add_is, sub_is, split, mag_in}
use Rattle.whole.specs.Sign.{abs_is, abs-mul}

-- ---- distances

pub abs-add : (a b : ℤ) → nat_abs (a +ℤ b) ≤ nat_abs a + nat_abs b
abs-add a b = omega (zz, abs_is a, abs_is b, abs_is (a +ℤ b), add_is a b, split (a +ℤ b))

pub abs-sub : (a b : ℤ) → nat_abs (a -ℤ b) ≤ nat_abs a + nat_abs b
abs-sub a b = omega (zz, abs_is a, abs_is b, abs_is (a -ℤ b), sub_is a b, split (a -ℤ b))

pub abs-mul-lt : (a b : ℤ) {m n : ℕ} → nat_abs a < m → nat_abs b < n → nat_abs (a *ℤ b) < m * n
abs-mul-lt a b {m} {n} p q =
    rw (abs-mul a b) (lt_of_le_of_lt (mul-le-mul_left (nat_abs a) (le_of_lt q)) (mul-lt-mul_of_pos_right p (omega arith)))

-- two numbers from -n to n - 1
pub apart : (n : ℕ) (a b : ℤ) → mag a < n → mag b < n → nat_abs (a -ℤ b) < n + n
apart n a b p q = omega (zz, abs_is (a -ℤ b), sub_is a b, split (a -ℤ b), mag_in a, mag_in b)

-- ---- fitting

pub fits-abs : (w : Width) (z : ℤ) → nat_abs z < 2 ^ hbits w → SFits w z
fits-abs w (pos n) h = record { sfits = h }
fits-abs w (negsuc n) h = record { sfits = omega arith }

pub sum_fits : (w : Width) (a b : ℤ) → nat_abs a + nat_abs b < 2 ^ hbits w → SFits w (a +ℤ b)
sum_fits w a b h = fits-abs w (a +ℤ b) (omega (arith, abs-add a b))

pub diff-fits : (w : Width) (a b : ℤ) → nat_abs a + nat_abs b < 2 ^ hbits w → SFits w (a -ℤ b)
diff-fits w a b h = fits-abs w (a -ℤ b) (omega (arith, abs-sub a b))

pub prod_fits : (w : Width) (a b : ℤ) → nat_abs a * nat_abs b < 2 ^ hbits w → SFits w (a *ℤ b)
prod_fits w a b h = fits-abs w (a *ℤ b) (rw (abs-mul a b) h)

pub widen : {z : ℤ} → SFits w32 z → SFits w64 z
widen h = record { sfits = omega (arith, h.sfits) }

pub ruleset fit = (rules, arith, sum_fits, diff-fits, prod_fits, widen)

-- ---- what stands in a local

-- a number that a call returned, read back from its bits
pub held : {w : Width} {y z : ℤ} → z ≡ y → SFits w y → to_z w (of_z w z) ≡ y
held {w} e h = ap (λ (x : ℤ). to_z w (of_z w x)) e ∙ to_z-of_z h

-- two unsigned numbers of 32 bits, and their difference in 64 bits with sign
pub lt63 : {n : ℕ} → Fits w32 n → n < 2 ^ 63
lt63 h = omega (arith, h.fits)

pub diff32 : (m n : ℕ) → Fits w32 m → Fits w32 n → SFits w64 (pos m -ℤ pos n)
diff32 m n p q = diff-fits w64 (pos m) (pos n) (omega (arith, p.fits, q.fits))
