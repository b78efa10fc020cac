-- One digit of a long division, of n = h * 2^32 + l by d, guessed as h by the upper half of d. The guess leaves `have` of n and wants the guess times the lower
-- half of d for it: n + want = guess * d + have. As have is below d, the guess is not below the digit; as want is below 2d, it is at most 2 above.
use mathlib.Core.Path.{◌≡◌, ap}
use Prim.Native.Nat.{ℕ, ◌+◌, ◌-◌, ◌*◌, ◌/◌, ◌%◌, ◌^◌, ◌≤◌, ◌<◌}
use native.Mathlib.Nat.{div-add-mod', mod-lt, div-lt_iff_lt-mul, mul-le-mul, lt_of_mul-lt-mul_right}
use native.Mathlib.Omega.{arith}
use Rattle.limbs.specs.Limbs.{quotient_of}
use Rattle.limbs.specs.declared.Quotient.{Quotient}
use Rattle.limbs.proofs.Words.{upper, lower, quotient_is}

pub record Guess (n d guess have want : ℕ) : Type 0 where
  pub balance : guess * d + have ≡ n + want
  pub have_below : have < d
  pub want_below : want < 2 ^ 64
  pub top : 2 ^ 63 ≤ d

pub guessed : (h l d : ℕ) → 2 ^ 63 ≤ d → d < 2 ^ 64 → h < d → l < 2 ^ 32
    → Guess (h * 2 ^ 32 + l) d (h / upper d) (h % upper d * 2 ^ 32 + l) (h / upper d * lower d)
guessed h l d t w b k =
    let d1 = upper d in
    let g = h / d1 in
    let p : 0 < d1 = omega arith in
    let q : g < 2 ^ 32 + 2 = (div-lt_iff_lt-mul {k = d1} {x = h} {y = 2 ^ 32 + 2} p).1 (omega arith) in
    record {
      balance = balanced h l d g (h % d1) (div-add-mod' h d1);
      have_below = let m = mod-lt h p in omega arith;
      want_below = fits g (lower d) (omega arith) (omega arith);
      top = t;
    }
  where
    balanced : (h l d g r : ℕ) → g * upper d + r ≡ h → g * d + (r * 2 ^ 32 + l) ≡ h * 2 ^ 32 + l + g * lower d
    balanced h l d g r e = let f = ap (λ (x : ℕ). g * x) (div-add-mod' d (2 ^ 32)) in omega arith

    fits : (g x : ℕ) → g ≤ 2 ^ 32 + 1 → x ≤ 2 ^ 32 - 1 → g * x < 2 ^ 64
    fits g x p q = let m : g * x ≤ (2 ^ 32 + 1) * (2 ^ 32 - 1) = mul-le-mul p q in omega arith

module _ {n d guess have want : ℕ} (x : Guess n d guess have want) where
  pub kept : want ≤ have → ◌≡◌ {A = Quotient} (record { whole = guess; rest = have - want }) (quotient_of n d)
  kept h = quotient_is (record { sum = omega arith; below = omega arith })

  pub at_least_one : have < want → 1 ≤ guess
  at_least_one h = lt_of_mul-lt-mul_right d {m = 0} {n = guess} (omega arith)

  pub one_less : have < want → want - have ≤ d → ◌≡◌ {A = Quotient} (record { whole = guess - 1; rest = d - (want - have) }) (quotient_of n d)
  one_less h k =
      let e : guess - 1 + 1 ≡ guess = omega (arith, at_least_one h) in
      let f = ap (λ (y : ℕ). y * d) e in
      quotient_is (record { sum = omega arith; below = omega arith })

  pub at_least_two : d < want - have → 2 ≤ guess
  at_least_two h = lt_of_mul-lt-mul_right d {m = 1} {n = guess} (omega arith)

  pub two-less : d < want - have → ◌≡◌ {A = Quotient} (record { whole = guess - 2; rest = d - (want - have - d) }) (quotient_of n d)
  two-less h =
      let e : guess - 2 + 2 ≡ guess = omega (arith, at_least_two h) in
      let f = ap (λ (y : ℕ). y * d) e in
      quotient_is (record { sum = omega arith; below = omega arith })
