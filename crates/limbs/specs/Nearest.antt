-- What the nearest quotient is, and how large it can be.
use Rattle.std.specs.Prelude.{◌≡◌, Ok, Err, ℕ, ◌+◌, ◌*◌, ◌^◌, ◌≤◌, ◌<◌}
use Rattle.std.proofs.Common.{div-lt_iff_lt-mul, div-mul-le_self, mul-le-mul_right, arith, lt-ltb, le-ltb, ne_eqb}
use Rattle.std.proofs.Math.Nat.{div-eq_of_lt-le, lt-div-mul-add}
use Rattle.limbs.specs.Limbs.{rounded_of, nearest_of}
use Rattle.limbs.specs.declared.DivisionError.TheVariants.{NoDivisor, TooLarge}

-- q is nearest to n / d, a half up: 2n - d < 2dq ≤ 2n + d, with d brought to where nothing is subtracted
pub record IsNearest (n d q : ℕ) : Type 0 where
  pub above : 2 * n < 2 * (d * q) + d
  pub below : 2 * (d * q) ≤ 2 * n + d

-- `rounded_of` is such a number
pub rounded-nearest : (n d : ℕ) → 0 < d → IsNearest n d (rounded_of n d)
rounded-nearest n d h =
    let e = div-mul-le_self (2 * n + d) (2 * d) in
    let f = lt-div-mul-add {a = 2 * n + d} {b = 2 * d} (omega arith) in
    record { above = omega arith; below = omega arith }

-- and the only one
pub nearest-rounded : {n d q : ℕ} → IsNearest n d q → rounded_of n d ≡ q
nearest-rounded {n} {d} {q} h = div-eq_of_lt-le {k = q} (2 * d) {m = 2 * n + d} (omega arith) (omega arith)

-- ---- the answer, by cases

pub answer-none : (n : ℕ) {d : ℕ} → d ≡ 0 → nearest_of n d ≡ Err NoDivisor
unfolding nearest_of
answer-none n e = rw e

pub answer-whole : {n d q : ℕ} → 0 < d → IsNearest n d q → q < 2 ^ 64 → nearest_of n d ≡ Ok q
unfolding nearest_of
answer-whole {n} {d} {q} h x w = rw (ne_eqb d 0 (λ e. omega arith), nearest-rounded x, lt-ltb q (2 ^ 64) w)

pub answer_large : {n d q : ℕ} → 0 < d → IsNearest n d q → 2 ^ 64 ≤ q → nearest_of n d ≡ Err TooLarge
unfolding nearest_of
answer_large {n} {d} {q} h x w = rw (ne_eqb d 0 (λ e. omega arith), nearest-rounded x, le-ltb q (2 ^ 64) w)

-- ---- bounds

-- the answer is a number, and at most k
pub record AtMost (n d k : ℕ) : Type 0 where
  pub answer : nearest_of n d ≡ Ok (rounded_of n d)
  pub most : rounded_of n d ≤ k

-- n at most k times the divisor has a quotient of at most k
pub at_most : (n d k : ℕ) → 0 < d → n ≤ d * k → k < 2 ^ 64 → AtMost n d k
at_most n d k h le w =
    let m : rounded_of n d < k + 1 = (div-lt_iff_lt-mul {k = 2 * d} {x = 2 * n + d} {y = k + 1} (omega arith)).1 (omega arith) in
    record { answer = answer-whole h (rounded-nearest n d h) (omega arith); most = omega arith }

-- a share of b that is at most the whole of it
pub share_at_most : (a b d : ℕ) → 0 < d → a ≤ d → b < 2 ^ 64 → AtMost (a * b) d b
share_at_most a b d h le w = at_most (a * b) d b h (mul-le-mul_right b le) w
