-- A test of the numbers below a bound, by exclusion: a number that is none of those with the other answer has this one. Assumes nothing.
use mathlib.Core.Path.{◌≡◌, refl, sym, ap, ◌∙◌}
use mathlib.Core.Bool.{Bool, true, false}
use mathlib.Core.Logic.{⊎_elim}
use Prim.Native.Nat.{ℕ, zero, suc, ◌<◌}
use native.Mathlib.Nat.{le_of_suc-le-suc, not-suc-le-zero, eq-or-lt_of_le}

-- P is asked only where the two answers differ
abbrev ask : Bool → Bool → Type 0 → Type 0 → Type 0
ask true true P Q = Q
ask true false P Q = P × Q
ask false true P Q = P × Q
ask false false P Q = Q

-- m is none of the numbers below n at which the test f does not answer t
abbrev pub Excluded : (ℕ → Bool) → Bool → ℕ → ℕ → Type 0
Excluded f t m zero = Unit {0}
Excluded f t m (suc n) = ask t (f n) (m ≡ n → ⊥) (Excluded f t m n)

step : (t b : Bool) (P Q : Type 0) → ask t b (P → ⊥) Q → (P → t ≡ b) × Q
step true true P Q u = (λ p. refl, u)
step true false P Q u = (λ p. absurd (u.0 p), u.1)
step false true P Q u = (λ p. absurd (u.0 p), u.1)
step false false P Q u = (λ p. refl, u)

pub answer : (f : ℕ → Bool) (t : Bool) (m n : ℕ) → m < n → Excluded f t m n → t ≡ f m
answer f t m zero h u = absurd (not-suc-le-zero h)
answer f t m (suc n) h u =
    let s = step t (f n) (m ≡ n) (Excluded f t m n) u in
    ⊎_elim (λ e. s.0 e ∙ ap f (sym e)) (λ l. answer f t m n l s.1) (eq-or-lt_of_le (le_of_suc-le-suc h))
