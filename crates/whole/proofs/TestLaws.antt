-- Tests of whole numbers from facts, and facts from tests. A law `lt-true` .. `le-false` here takes a fact of ℤ to the outcome of a test, and `simp tests` puts
-- the outcome of every comparison that is known into the goal. `lt_of`, `le_of`, `lt_not`, `le_not_of` go back, from an outcome to a fact of ℤ.
-- (Module Order has laws of the same names from an outcome to a fact of the halves, for `omega zc`.)
use Rattle.std.specs.Prelude.{◌≡◌, refl, Bool, true, false, not, ◌&&◌, ◌||◌, T, ℤ, ◌≤ℤ◌, ◌<ℤ◌}
use Rattle.std.proofs.Common.{sym, ◌∙◌, subst, ⊎_elim}
use Rattle.std.specs.Int.Signed.{le_z, lt_z}
use Rattle.whole.specs.Order.{zz}
use Rattle.whole.proofs.SignLaws.{lt_or_le}
use Rattle.whole.specs.Test.{eq_z, is_false, is_true, le-eq, le-eq_back, le-false, le-true, lt-false, lt-true}

pub of_true : {b : Bool} → b ≡ true → T b
of_true e = subst T (sym e) tt

pub and_l : (a b : Bool) → a && b ≡ true → a ≡ true
and_l true b e = refl
and_l false b e = e

pub and_r : (a b : Bool) → a && b ≡ true → b ≡ true
and_r true b e = e
and_r false b e = absurd (of_true e)

pub neither : (a b : Bool) → (a || b) ≡ false → (a ≡ false) × (b ≡ false)
neither true b e = absurd (of_true (sym e))
neither false b e = (refl, e)

pub or_true : (b : Bool) → (b || true) ≡ true
or_true true = refl
or_true false = refl

pub or_false : (b : Bool) → (b || false) ≡ b
or_false true = refl
or_false false = refl

pub not_false : (b : Bool) → not b ≡ false → b ≡ true
not_false true e = refl
not_false false e = absurd (of_true (sym e))

-- two second tests that agree where the first holds
pub and_same : (c : Bool) {t s : Bool} → (c ≡ true → t ≡ s) → (c && t) ≡ (c && s)
and_same true f = f refl
and_same false f = refl

-- ---- from tests to facts

pub lt_of : {a b : ℤ} → lt_z a b ≡ true → a <ℤ b
lt_of e = record { lt = of_true e }

pub le_of : {a b : ℤ} → le_z a b ≡ true → a ≤ℤ b
le_of e = record { le = of_true e }

pub lt_not : {a b : ℤ} → lt_z a b ≡ false → b ≤ℤ a
lt_not {a} {b} e = ⊎_elim (λ h. absurd (of_true (sym e ∙ lt-true h))) (λ h. h) (lt_or_le a b)

pub le_not_of : {a b : ℤ} → le_z a b ≡ false → b <ℤ a
le_not_of {a} {b} e = ⊎_elim (λ h. h) (λ h. absurd (of_true (sym e ∙ le-true h))) (lt_or_le b a)

-- the one test by the other
pub le_not : (a b : ℤ) → le_z a b ≡ not (lt_z b a)
le_not a b =
    ⊎_elim (λ (h : b <ℤ a). rw (le-false h, lt-true h)) (λ (h : a ≤ℤ b). rw (le-true h, lt-false h)) (lt_or_le b a)

pub eq_z_is : {a b : ℤ} → eq_z a b ≡ true → a ≡ b
eq_z_is {a} {b} e =
    let h : a ≤ℤ b = le_of (and_l (le_z a b) (le_z b a) e) in
    let k : b ≤ℤ a = le_of (and_r (le_z a b) (le_z b a) e) in
    omega zz

pub eq_z-true : {a b : ℤ} → a ≡ b → eq_z a b ≡ true
eq_z-true {a} {b} e = rw (le-eq e, le-eq_back {a = b} {b = a} e)

pub eq_z-false : {a b : ℤ} → (a ≡ b → ⊥) → eq_z a b ≡ false
eq_z-false f = is_false (λ t. f (eq_z_is (is_true t)))
