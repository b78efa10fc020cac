-- The steps to the middle point, over plain whole numbers: quotients that fit, and a share as a size with a sign.
use mathlib.Core.Path.{◌≡◌, refl}
use mathlib.Core.Logic.{◌≢◌, inl, inr}
use Prim.Native.Nat.{ℕ, zero, suc, ◌*◌, ◌/◌, ◌<◌, ◌^◌}
use native.Mathlib.Nat.{div-le_self, lt_of_le_of_lt}
use native.Mathlib.Omega.{arith}
use lib.IntN.{ℤ, pos, negsuc, neg_ℤ, nat_abs, ◌-ℤ◌, ◌*ℤ◌}
use lib.Signed.{quot_z, ◌<ℤ◌}
use mir.Syntax.{w64}
use mir.Val.{SFits, of_z}
use Rattle.whole.specs.Order.{zz, sub_is, split, bits_eq}
use Rattle.whole.specs.Sign.{abs_is}
use Rattle.whole.specs.Fit.{fits-abs}
use Rattle.limbs.specs.Nearest.{nearest-rounded, AtMost, share_at_most}
use Rattle.plane.specs.Meeting.{Parted}
use Rattle.plane.specs.Quotients.{near, nearest}
use Rattle.middles.specs.Middle.{signed_as, Same, over, under, Share}

-- ---- the quotient cut toward zero

neg-abs : (n : ℕ) → nat_abs (neg_ℤ (pos n)) ≡ n
neg-abs zero = refl
neg-abs (suc n) = refl

quot_abs : (n d : ℤ) → nat_abs (quot_z n d) ≡ nat_abs n / nat_abs d
quot_abs (pos n) (pos d) = refl
quot_abs (pos n) (negsuc d) = neg-abs (n / suc d)
quot_abs (negsuc n) (pos d) = neg-abs (suc n / d)
quot_abs (negsuc n) (negsuc d) = refl

pub quot_fits : (n d : ℤ) → nat_abs n < 2 ^ 63 → SFits w64 (quot_z n d)
quot_fits n d h = fits-abs w64 (quot_z n d) (rw (quot_abs n d) (lt_of_le_of_lt (div-le_self (nat_abs n) (nat_abs d)) h))

pub bits_some : (d : ℤ) → SFits w64 d → d ≢ pos 0 → 0 < of_z w64 d
bits_some d f n = let g : of_z w64 d ≢ 0 = λ e. n (bits_eq {w = w64} {a = d} {b = pos 0} f (record { sfits = omega arith }) e) in omega arith

-- ---- the share to nearest

none-near : (d : ℕ) → near 0 (suc d) ≡ 0
none-near d = nearest-rounded {n = 0} {d = suc d} {q = 0} (record { above = omega arith; below = omega arith })

near_minus : (m d : ℕ) → nearest (neg_ℤ (pos m)) (pos (suc d)) ≡ neg_ℤ (pos (near m (suc d)))
unfolding nearest
near_minus zero d = rw (none-near d)
near_minus (suc m) d = refl

near-both : (m d : ℕ) → nearest (neg_ℤ (pos m)) (negsuc d) ≡ pos (near m (suc d))
unfolding nearest
near-both zero d = rw (none-near d)
near-both (suc m) d = refl

pub share_is : {n d : ℤ} (a : ℤ) → Same n d → nearest (n *ℤ a) d ≡ signed_as a (near (nat_abs n * nat_abs a) (nat_abs d))
unfolding nearest
share_is (pos a) (over {n} {d}) = refl
share_is (negsuc a) (over {n} {d}) = near_minus (suc n * suc a) d
share_is (pos a) (under {n} {d}) = near-both (suc n * a) d
share_is (negsuc a) (under {n} {d}) = refl

pub share_most : {n d a : ℤ} → Share n d a → AtMost (nat_abs n * nat_abs a) (nat_abs d) (nat_abs a)
share_most {n} {d} {a} s = share_at_most (nat_abs n) (nat_abs a) (nat_abs d) (omega (arith, s.less)) (omega (arith, s.less)) (omega (arith, s.a_small))

-- ---- two turns of opposite signs: the first against their difference

same_over : (n d : ℤ) → pos 0 <ℤ n → pos 0 <ℤ d → Same n d
same_over (pos zero) d h k = let z : ⊥ = omega zz in absurd z
same_over (pos (suc n)) (pos zero) h k = let z : ⊥ = omega zz in absurd z
same_over (pos (suc n)) (pos (suc d)) h k = over
same_over (pos (suc n)) (negsuc d) h k = let z : ⊥ = omega zz in absurd z
same_over (negsuc n) d h k = let z : ⊥ = omega zz in absurd z

same-under : (n d : ℤ) → n <ℤ pos 0 → d <ℤ pos 0 → Same n d
same-under (negsuc n) (negsuc d) h k = under
same-under (negsuc n) (pos d) h k = let z : ⊥ = omega zz in absurd z
same-under (pos n) d h k = let z : ⊥ = omega zz in absurd z

pub parted-same : {m n : ℤ} → Parted m n → Same m (m -ℤ n)
parted-same {m} {n} (inl h) = same-under m (m -ℤ n) h.0 (omega (zz, sub_is m n))
parted-same {m} {n} (inr h) = same_over m (m -ℤ n) h.0 (omega (zz, sub_is m n))

pub parted-less : {m n : ℤ} → Parted m n → nat_abs m < nat_abs (m -ℤ n)
parted-less {m} {n} (inl h) = omega (zz, sub_is m n, abs_is m, abs_is (m -ℤ n), split m, split (m -ℤ n))
parted-less {m} {n} (inr h) = omega (zz, sub_is m n, abs_is m, abs_is (m -ℤ n), split m, split (m -ℤ n))
