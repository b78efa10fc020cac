-- The halves of words, and what settles two words and a quotient with its rest.
use mathlib.Core.Path.{◌≡◌}
use Prim.Native.Nat.{ℕ, ◌+◌, ◌*◌, ◌/◌, ◌%◌, ◌^◌, ◌<◌}
use native.Mathlib.Nat.{div-add-mod', mod-lt}
use native.Mathlib.Omega.{arith}
use lib.Arith.{digits_div, digits_mod}
use Rattle.limbs.specs.Limbs.{value, two_of, quotient_of}
use Rattle.limbs.specs.declared.Two.{Two}
use Rattle.limbs.specs.declared.Quotient.{Quotient}

-- the halves of a word
abbrev pub upper : ℕ → ℕ
upper n = n / 2 ^ 32

abbrev pub lower : ℕ → ℕ
lower n = n % 2 ^ 32

-- ---- what settles two words, and a quotient with its rest

pub two_is : (h l n : ℕ) → h * 2 ^ 64 + l ≡ n → l < 2 ^ 64 → ◌≡◌ {A = Two} (record { high = h; low = l }) (two_of n)
two_is h l n e k = rw (← e, digits_div h k, digits_mod h k)

pub one_word : (t : Two) → t.high ≡ 0 → t.low ≡ value t
one_word t e = omega arith

pub record Divided (n d q r : ℕ) : Type 0 where
  pub sum : q * d + r ≡ n
  pub below : r < d

pub quotient_is : {n d q r : ℕ} → Divided n d q r → ◌≡◌ {A = Quotient} (record { whole = q; rest = r }) (quotient_of n d)
quotient_is {q = q} x = rw (← x.sum, digits_div q x.below, digits_mod q x.below)

pub quotient_divided : (x : Quotient) (n d : ℕ) → 0 < d → x ≡ quotient_of n d → Divided n d x.whole x.rest
quotient_divided x n d h e = record { sum = rw e (div-add-mod' n d); below = rw e (mod-lt n h) }
