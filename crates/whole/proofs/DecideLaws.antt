-- Tests that decide sentences: `Decides P t` says that the test t is true where P holds and false where it does not. A test made of tests is decided by their
-- laws in the order in which it is written (`both` and `either` for `cond`, `and` and `or` for `&&` and `||`, `said` for the same sentence in other words):
--     said to from (both (lt? a b) (le? c d)) : Decides P (cond (lt_z a b) (le_z c d) false)
-- and `holds`, `fails`, `when_true`, `when_false` go between the sentence and the test's outcome.
use Rattle.std.specs.Prelude.{◌≡◌, refl, Bool, true, false, ℤ, ◌≤ℤ◌, ◌<ℤ◌}
use Rattle.std.proofs.Common.{sym}
use Rattle.std.specs.Int.Signed.{lt_z, le_z}
use Rattle.whole.specs.Order.{zz}
use Rattle.whole.specs.Test.{eq_z}
use Rattle.whole.proofs.TestLaws.{of_true, lt_of, lt_not, le_of, le_not_of}
use Rattle.whole.specs.Decide.{Decides, and, said, yes, no}

pub when_true : {P : Type 0} {t : Bool} → Decides P t → t ≡ true → P
when_true (yes h) e = h
when_true (no f) e = absurd (of_true e)

pub when_false : {P : Type 0} {t : Bool} → Decides P t → t ≡ false → P → ⊥
when_false (yes h) e p = of_true (sym e)
when_false (no f) e p = f p

-- ---- whole numbers

pub lt? : (a b : ℤ) → Decides (a <ℤ b) (lt_z a b)
lt? a b = go (lt_z a b) refl
  where
    go : (t : Bool) → lt_z a b ≡ t → Decides (a <ℤ b) t
    go true e = yes (lt_of e)
    go false e = no (λ h. omega (zz, lt_not {a = a} {b = b} e))

pub le? : (a b : ℤ) → Decides (a ≤ℤ b) (le_z a b)
le? a b = go (le_z a b) refl
  where
    go : (t : Bool) → le_z a b ≡ t → Decides (a ≤ℤ b) t
    go true e = yes (le_of e)
    go false e = no (λ h. omega (zz, le_not_of {a = a} {b = b} e))

pub same? : (a b : ℤ) → Decides (a ≡ b) (eq_z a b)
same? a b = said (λ h. omega (zz, h.0, h.1)) (λ e. (omega zz, omega zz)) (and (le? a b) (le? b a))
