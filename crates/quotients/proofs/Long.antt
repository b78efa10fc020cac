-- Long division of two words: one digit after the other, and with the number and the divisor multiplied by one factor, which leaves the quotient as it is.
use mathlib.Core.Path.{◌≡◌, subst}
use Prim.Native.Nat.{ℕ, suc, ◌+◌, ◌*◌, ◌^◌, ◌≤◌, ◌<◌}
use native.Mathlib.Nat.{lt_of_mul-lt-mul_right, mul-lt-mul_of_pos_right, mul-le-mul_right}
use native.Mathlib.Omega.{arith}
use lib.Arith.{digits_lt}
use lib.Count.{count_leading_zeros, leading_top}
use lib.Pow.{pow_pos, pow-add, shl_lt}
use Rattle.limbs.proofs.Words.{upper, lower, Divided}

-- a number whose high part is below the divisor has one digit as its quotient
pub one_digit : (h l : ℕ) {d q r : ℕ} → Divided (h * 2 ^ 32 + l) d q r → h < d → l < 2 ^ 32 → q < 2 ^ 32
one_digit h l {d} {q} x b k = let m = digits_lt b k in lt_of_mul-lt-mul_right d {m = q} {n = 2 ^ 32} (omega arith)

-- the rest after the upper digit is the high part of what the lower digit divides
pub two_digits : (h l : ℕ) {d q₁ r₁ q₀ r₀ : ℕ} → Divided (h * 2 ^ 32 + upper l) d q₁ r₁ → Divided (r₁ * 2 ^ 32 + lower l) d q₀ r₀ → Divided (h * 2 ^ 64 + l) d (q₁ * 2 ^ 32 + q₀) r₀
two_digits h l x y = let e = x.sum in let f = y.sum in record { sum = omega arith; below = y.below }

-- ---- the factor. The word's base is a variable here: `omega` stops at numbers of more than 38 digits

-- what a multiple carries over is below the factor
pub carry_below : (l : ℕ) {B low f h : ℕ} → h * B + l ≡ low * f → low < B → 0 < f → h < f
carry_below l {B} {low} {f} {h} e k p = let m : low * f < B * f = mul-lt-mul_of_pos_right k p in lt_of_mul-lt-mul_right B {m = h} {n = f} (omega arith)

-- the high word's multiple and what is carried, with the low word's multiple, are the number's
pub carry_over : (high low f h l : ℕ) → h * 2 ^ 64 + l ≡ low * f → (high * f + h) * 2 ^ 64 + l ≡ (high * 2 ^ 64 + low) * f
carry_over high low f h l e = omega arith

-- a number whose high word is below the divisor stays so
pub stays-below : (l : ℕ) {B high low f d h : ℕ} → h * B + l ≡ (high * B + low) * f → low < B → high < d → 0 < f → h < d * f
stays-below l {B} {high} {low} {f} {d} {h} e k b p =
    let m : (high * B + low) * f < d * B * f = mul-lt-mul_of_pos_right (digits_lt b k) p in
    lt_of_mul-lt-mul_right B {m = h} {n = d * f} (omega arith)

-- the factor sets the divisor's top bit, and takes nothing out of the word
pub record Raises (d f : ℕ) : Type 0 where
  pub some : 0 < f
  pub top : 2 ^ 63 ≤ d * f
  pub fits : d * f < 2 ^ 64

pub raises : (d : ℕ) → 0 < d → d < 2 ^ 64 → Raises d (2 ^ count_leading_zeros 64 d)
raises d p h =
    let s = count_leading_zeros 64 d in
    let t = leading_top 64 d p h in
    record {
      some = pow_pos s;
      top = subst (λ (k : ℕ). 2 ^ k ≤ d * 2 ^ s) {x = t.0 + s} {y = 63} (omega arith) (rw pow-add (mul-le-mul_right (2 ^ s) t.2));
      fits = subst (λ (k : ℕ). d * 2 ^ s < 2 ^ k) {x = suc t.0 + s} {y = 64} (omega arith) (shl_lt (suc t.0) s t.3);
    }

-- and leaves room for what the low word carries
pub room : {d f high : ℕ} → Raises d f → high < d → high * f + f ≤ 2 ^ 64
room {f = f} x b = let m = mul-le-mul_right f b in omega arith
