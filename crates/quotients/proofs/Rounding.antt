-- From a quotient and its rest to the nearest, and the nearest under a factor.
use mathlib.Core.Path.{◌≡◌, sym}
use Prim.Native.Nat.{ℕ, ◌+◌, ◌-◌, ◌*◌, ◌^◌, ◌≤◌, ◌<◌}
use native.Mathlib.Nat.{mul-div-mul_right, le-div_iff_mul-le, mul-lt-mul_of_pos_right, mul-le-mul_right}
use native.Mathlib.Omega.{arith}
use borrow.Author.Tests.{ne_eqb}
use Rattle.std.specs.Prelude.{Ok, Err, cond, ltb}
use Rattle.limbs.specs.Limbs.{rounded_of, nearest_of}
use Rattle.limbs.specs.Nearest.{IsNearest, rounded-nearest, nearest-rounded, answer_large}
use Rattle.limbs.specs.declared.DivisionError.TheVariants.{TooLarge}

pub down : (q : ℕ) {r d : ℕ} → r < d - r → IsNearest (q * d + r) d q
down q h = record { above = omega arith; below = omega arith }

pub up : (q : ℕ) {r d : ℕ} → d - r ≤ r → r < d → IsNearest (q * d + r) d (q + 1)
up q h k = record { above = omega arith; below = omega arith }

-- the answer, where it is the next number up to the last word
pub word_or_large : {n d q : ℕ} → 0 < d → IsNearest n d q → cond (ltb q (2 ^ 64)) (Ok q) (Err TooLarge) ≡ nearest_of n d
unfolding nearest_of
word_or_large {n} {d} {q} p x = rw (ne_eqb d 0 (λ e. omega arith), nearest-rounded x)

-- a high word that is not below the divisor is too large
pub too_high : (high low d : ℕ) → 0 < d → d ≤ high → nearest_of (high * 2 ^ 64 + low) d ≡ Err TooLarge
too_high high low d p h =
    answer_large p (rounded-nearest (high * 2 ^ 64 + low) d p) ((le-div_iff_mul-le {k = 2 * d} {x = 2 ^ 64} {y = 2 * (high * 2 ^ 64 + low) + d} (omega arith)).1 (words (2 ^ 64) high low d h))
  where
    words : (B high low d : ℕ) → d ≤ high → B * (2 * d) ≤ 2 * (high * B + low) + d
    words B high low d h = let m = mul-le-mul_right B h in omega arith

-- a factor of both changes nothing
pub raised_alike : (n d f : ℕ) → 0 < d → 0 < f → nearest_of (n * f) (d * f) ≡ nearest_of n d
unfolding nearest_of
raised_alike n d f p q =
    let m : 0 * f < d * f = mul-lt-mul_of_pos_right p q in
    let e : rounded_of (n * f) (d * f) ≡ rounded_of n d = quotient n d f q in
    rw (ne_eqb (d * f) 0 (λ z. omega arith), ne_eqb d 0 (λ z. omega arith), e)
  where
    quotient : (n d f : ℕ) → 0 < f → rounded_of (n * f) (d * f) ≡ rounded_of n d
    quotient n d f q =
        let a : 2 * (n * f) + d * f ≡ (2 * n + d) * f = omega arith in
        let b : 2 * (d * f) ≡ 2 * d * f = omega arith in
        rw (a, b) (mul-div-mul_right (2 * n + d) (2 * d) q)
