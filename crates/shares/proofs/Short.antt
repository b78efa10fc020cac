-- One digit below 2^31: what the guess wants is below the divisor, so it is at most 1 too large.
use mathlib.Core.Path.{◌≡◌, refl, ap}
use mathlib.Core.Bool.{Bool, true, false}
use mir.Val.{bool_byte}
use Prim.Native.Nat.{ℕ, ◌+◌, ◌-◌, ◌*◌, ◌/◌, ◌%◌, ◌^◌, ◌≤◌, ◌<◌}
use native.Mathlib.Nat.{div-lt_iff_lt-mul, mul-le-mul}
use native.Mathlib.Omega.{arith}
use lib.Dec.{ltb}
use borrow.Author.Tests.{ltb-true, ltb-false}
use Rattle.limbs.specs.declared.Quotient.{Quotient}
use Rattle.limbs.proofs.Words.{upper, lower}
use Rattle.quotients.proofs.Guess.{Guess, guessed, kept, at_least_one, one_less}

abbrev pub have : ℕ → ℕ → ℕ → ℕ
have h l d = h % upper d * 2 ^ 32 + l

abbrev pub want : ℕ → ℕ → ℕ
want h d = h / upper d * lower d

pub record Short (h l d : ℕ) : Type 0 where
  pub guess : Guess (h * 2 ^ 32 + l) d (h / upper d) (have h l d) (want h d)
  pub want_small : want h d < 2 ^ 63

pub short : (h l d : ℕ) → 2 ^ 63 ≤ d → d < 2 ^ 64 → 2 * h < d → l < 2 ^ 32 → Short h l d
short h l d t w b k =
    let q : h / upper d < 2 ^ 31 + 1 = (div-lt_iff_lt-mul {k = upper d} {x = h} {y = 2 ^ 31 + 1} (omega arith)).1 (omega arith) in
    record { guess = guessed h l d t w (omega arith) k; want_small = fits (h / upper d) (lower d) (omega arith) (omega arith) }
  where
    fits : (g x : ℕ) → g ≤ 2 ^ 31 → x ≤ 2 ^ 32 - 1 → g * x < 2 ^ 63
    fits g x p q = let m : g * x ≤ 2 ^ 31 * (2 ^ 32 - 1) = mul-le-mul p q in omega arith

module _ {h l d : ℕ} (x : Short h l d) where
  -- what is taken off the guess
  pub counted : {r : ℕ} → r ≡ bool_byte (ltb (have h l d) (want h d)) → (r ≤ h / upper d) × (h / upper d - r ≡ (h * 2 ^ 32 + l) / d)
  counted {r} e = go (ltb (have h l d) (want h d)) refl e
    where
      go : (b : Bool) → ltb (have h l d) (want h d) ≡ b → r ≡ bool_byte b → (r ≤ h / upper d) × (h / upper d - r ≡ (h * 2 ^ 32 + l) / d)
      go true f z =
          let k = ltb-true (have h l d) (want h d) f in
          rw z (at_least_one x.guess k, ap (λ (q : Quotient). q.whole) (one_less x.guess k (omega (arith, x.want_small, x.guess.top))))
      go false f z =
          let e : h / upper d ≡ (h * 2 ^ 32 + l) / d = ap (λ (q : Quotient). q.whole) (kept x.guess (ltb-false (have h l d) (want h d) f)) in
          (omega arith, omega arith)
