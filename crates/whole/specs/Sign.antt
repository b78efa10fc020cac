-- Signs of products, cancelling, bounds; and how to split on the order of two numbers. Prove a sign in three steps: an identity by `ring`, the signs of the
-- products by a law of this file, the rest by `omega zz`:
--     let k = mul-pos {a = b -ℤ a} {b = c} (omega (zz, sub_is b a)) p in omega (zz, sub-mul a b c, sub_is (b *ℤ c) (a *ℤ c))
-- The factors of a product are implicit and are not found by themselves where they are compound: give them by name, as here. `omega` neither reads nor proves
-- a sum of types: split with `tri a b` (less, same, more), `lt_or_le`, or by contradiction (`le_by_contra`, `lt_by_contra`).
use Rattle.std.specs.Prelude.{◌≡◌, refl, ℕ, zero, suc, ◌+◌, ◌*◌, ℤ, pos, negsuc, neg_ℤ, nat_abs, ◌*ℤ◌, ◌<ℤ◌}
use Rattle.std.proofs.Common.{arith}
use Rattle.whole.specs.Order.{up, dn}

-- less, equal or greater
pub data Tri (a b : ℤ) : Type 0 where
  less : a <ℤ b → Tri a b
  same : a ≡ b → Tri a b
  more : b <ℤ a → Tri a b

-- ---- distance from 0

pub abs_is : (a : ℤ) → nat_abs a ≡ up a + dn a
abs_is (pos a) = omega arith
abs_is (negsuc a) = omega arith

abs_neg : (n : ℕ) → nat_abs (neg_ℤ (pos n)) ≡ n
abs_neg zero = refl
abs_neg (suc n) = refl

pub abs-mul : (a b : ℤ) → nat_abs (a *ℤ b) ≡ nat_abs a * nat_abs b
abs-mul (pos a) (pos b) = refl
abs-mul (pos a) (negsuc b) = abs_neg (a * suc b)
abs-mul (negsuc a) (pos b) = abs_neg (suc a * b)
abs-mul (negsuc a) (negsuc b) = refl
