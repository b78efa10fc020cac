-- Tests of whole numbers from facts, and facts from tests. A law `lt-true` .. `le-false` here takes a fact of ℤ to the outcome of a test, and `simp tests` puts
-- the outcome of every comparison that is known into the goal. `lt_of`, `le_of`, `lt_not`, `le_not_of` go back, from an outcome to a fact of ℤ.
-- (Module Order has laws of the same names from an outcome to a fact of the halves, for `omega zc`.)
use Rattle.std.specs.Prelude.{◌≡◌, refl, Bool, true, false, ◌&&◌, T, ℤ, ◌≤ℤ◌, ◌<ℤ◌}
use Rattle.std.proofs.Math.IntN.{+ℤ_idl, +ℤ_idr}
use Rattle.std.specs.Int.Signed.{le_z, lt_z}
use Rattle.whole.specs.Order.{zz}

-- ---- truth

pub is_true : {b : Bool} → T b → b ≡ true
is_true {b = true} t = refl
is_true {b = false} t = absurd t

pub is_false : {b : Bool} → (T b → ⊥) → b ≡ false
is_false {b = true} f = absurd (f tt)
is_false {b = false} f = refl

-- ---- from facts to tests

pub lt-true : {a b : ℤ} → a <ℤ b → lt_z a b ≡ true
lt-true h = is_true h.lt

pub lt-false : {a b : ℤ} → b ≤ℤ a → lt_z a b ≡ false
lt-false {a} {b} h = is_false (λ t. let k : a <ℤ b = record { lt = t } in omega zz)

pub le-true : {a b : ℤ} → a ≤ℤ b → le_z a b ≡ true
le-true h = is_true h.le

pub le-false : {a b : ℤ} → b <ℤ a → le_z a b ≡ false
le-false {a} {b} h = is_false (λ t. let k : a ≤ℤ b = record { le = t } in omega zz)

-- by a weaker or a stronger fact than the test asks for
pub lt_gt : {a b : ℤ} → b <ℤ a → lt_z a b ≡ false
lt_gt {a} {b} h = let k : b ≤ℤ a = omega zz in lt-false k

pub lt-eq : {a b : ℤ} → a ≡ b → lt_z a b ≡ false
lt-eq {a} {b} h = let k : b ≤ℤ a = omega zz in lt-false k

pub lt-eq_back : {a b : ℤ} → b ≡ a → lt_z a b ≡ false
lt-eq_back {a} {b} h = let k : b ≤ℤ a = omega zz in lt-false k

pub le-lt : {a b : ℤ} → a <ℤ b → le_z a b ≡ true
le-lt {a} {b} h = let k : a ≤ℤ b = omega zz in le-true k

pub le-eq : {a b : ℤ} → a ≡ b → le_z a b ≡ true
le-eq {a} {b} h = let k : a ≤ℤ b = omega zz in le-true k

pub le-eq_back : {a b : ℤ} → b ≡ a → le_z a b ≡ true
le-eq_back {a} {b} h = let k : a ≤ℤ b = omega zz in le-true k

pub ruleset tests = (+ℤ_idl, +ℤ_idr, lt-true, lt-false, lt_gt, lt-eq, lt-eq_back, le-true, le-false, le-lt, le-eq, le-eq_back)

-- ---- equality as a test

abbrev pub eq_z : ℤ → ℤ → Bool
eq_z a b = le_z a b && le_z b a
