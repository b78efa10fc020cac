-- Zero and odd, read off the bits of a signed 64-bit number. The remainder by 2 has the number's sign, so its size is that of the number's size. Assumes nothing.
use mathlib.Core.Path.{◌≡◌, refl, sym, ap, ◌∙◌}
use mathlib.Core.Bool.{not}
use Prim.Native.Nat.{ℕ, zero, suc, ◌-◌, ◌%◌, ◌<◌, ◌^◌}
use native.Mathlib.Omega.{arith}
use lib.Dec.{eqb, eqb-suc-zero}
use lib.IntN.{ℤ, pos, negsuc, neg_ℤ, nat_abs}
use lib.Signed.{rem_z, mag_rem}
use mir.Syntax.{w64}
use mir.Val.{SFits, of_z}
use mir.ValLaws.{sfits_le}
use borrow.Author.Tests.{ne_eqb}

pub zero_bits : (z : ℤ) → SFits w64 z → eqb (of_z w64 z) 0 ≡ eqb (nat_abs z) 0
zero_bits (pos n) h = refl
zero_bits (negsuc n) h = ne_eqb (2 ^ 64 - suc n) 0 (omega (arith, h.sfits)) ∙ sym (eqb-suc-zero n)

abs_neg : (n : ℕ) → nat_abs (neg_ℤ (pos n)) ≡ n
abs_neg zero = refl
abs_neg (suc n) = refl

abs_rem : (z : ℤ) → nat_abs (rem_z z (pos 2)) ≡ nat_abs z % 2
abs_rem (pos n) = refl
abs_rem (negsuc n) = abs_neg (suc n % 2)

one_of_two : (r : ℕ) → r < 2 → not (eqb r 0) ≡ eqb r 1
one_of_two zero h = refl
one_of_two (suc zero) h = refl
one_of_two (suc (suc r)) h = absurd (omega arith)

pub odd_bits : (z : ℤ) → SFits w64 z → not (eqb (of_z w64 (rem_z z (pos 2))) 0) ≡ eqb (nat_abs z % 2) 1
odd_bits z h =
    ap not (zero_bits (rem_z z (pos 2)) (sfits_le (mag_rem z (pos 2)) h)) ∙ ap (λ (r : ℕ). not (eqb r 0)) (abs_rem z) ∙ one_of_two (nat_abs z % 2) (omega arith)
