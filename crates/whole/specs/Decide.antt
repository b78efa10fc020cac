-- Tests that decide sentences: `Decides P t` says that the test t is true where P holds and false where it does not. A test made of tests is decided by their
-- laws in the order in which it is written (`both` and `either` for `cond`, `and` and `or` for `&&` and `||`, `said` for the same sentence in other words):
--     said to from (both (lt? a b) (le? c d)) : Decides P (cond (lt_z a b) (le_z c d) false)
-- and `holds`, `fails`, `when_true`, `when_false` go between the sentence and the test's outcome.
use Rattle.std.specs.Prelude.{◌≡◌, refl, Bool, true, false, cond, not, ◌&&◌, ◌||◌, ◌↔◌, ◌⊎◌, ℕ, ◌<◌, T, ltb, eqb}
use Rattle.std.proofs.Common.{inl, inr, ⊎_elim, arith, ltb-true, ltb-false, eqb-true}
use Rattle.std.proofs.lemmas.Bool.{eqb-false}

-- the test t decides the sentence P
pub data Decides (P : Type 0) : Bool → Type 0 where
  yes : P → Decides P true
  no : (P → ⊥) → Decides P false

pub holds : {P : Type 0} {t : Bool} → Decides P t → P → t ≡ true
holds (yes h) p = refl
holds (no f) p = absurd (f p)

pub fails : {P : Type 0} {t : Bool} → Decides P t → (P → ⊥) → t ≡ false
fails (yes h) f = absurd (f h)
fails (no f) g = refl

pub test_is : {P : Type 0} {t : Bool} → Decides P t → (T t ↔ P)
test_is (yes h) = (λ u. h, λ p. tt)
test_is (no f) = (λ u. absurd u, f)

pub decided : (t : Bool) {P : Type 0} → (T t ↔ P) → Decides P t
decided true h = yes (h.0 tt)
decided false h = no h.1

-- ---- tests made of tests

pub said : {P Q : Type 0} {t : Bool} → (P → Q) → (Q → P) → Decides P t → Decides Q t
said f g (yes h) = yes (f h)
said f g (no n) = no (λ q. n (g q))

pub both : {P Q : Type 0} {a b : Bool} → Decides P a → Decides Q b → Decides (P × Q) (cond a b false)
both (yes p) (yes q) = yes (p, q)
both (yes p) (no g) = no (λ h. g h.1)
both (no f) d = no (λ h. f h.0)

pub and : {P Q : Type 0} {a b : Bool} → Decides P a → Decides Q b → Decides (P × Q) (a && b)
and (yes p) (yes q) = yes (p, q)
and (yes p) (no g) = no (λ h. g h.1)
and (no f) d = no (λ h. f h.0)

pub or : {P Q : Type 0} {a b : Bool} → Decides P a → Decides Q b → Decides (P ⊎ Q) (a || b)
or (yes p) d = yes (inl p)
or (no f) (yes q) = yes (inr q)
or (no f) (no g) = no (⊎_elim f g)

pub opposite : {P : Type 0} {a : Bool} → Decides P a → Decides (¬ P) (not a)
opposite (yes p) = no (λ n. n p)
opposite (no f) = yes f

pub either : {P Q : Type 0} {a b : Bool} → Decides P a → Decides Q b → Decides (P ⊎ Q) (cond a true b)
either (yes p) d = yes (inl p)
either (no f) (yes q) = yes (inr q)
either (no f) (no g) = no (⊎_elim f g)

pub unless : {P Q : Type 0} {a b : Bool} → Decides P a → Decides Q b → Decides ((P → ⊥) × Q) (cond a false b)
unless (yes p) d = no (λ h. h.0 p)
unless (no f) (yes q) = yes (f, q)
unless (no f) (no g) = no (λ h. g h.1)

-- ---- natural numbers

pub below? : (m n : ℕ) → Decides (m < n) (ltb m n)
below? m n = go (ltb m n) refl
  where
    go : (t : Bool) → ltb m n ≡ t → Decides (m < n) t
    go true e = yes (ltb-true m n e)
    go false e = no (λ h. omega (arith, ltb-false m n e))

pub equal? : (m n : ℕ) → Decides (m ≡ n) (eqb m n)
equal? m n = go (eqb m n) refl
  where
    go : (t : Bool) → eqb m n ≡ t → Decides (m ≡ n) t
    go true e = yes (eqb-true m n e)
    go false e = no (eqb-false m n e)
