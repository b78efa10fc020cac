-- A sorted list of rows without its repeats: a pass that gives each row which differs from the one before.
use Rattle.std.specs.Prelude.{◌≡◌, Bool, cond, List, [], ◌∷◌, ℕ, ℤ, length}
use Rattle.whole.specs.Kind.{Kind, rows_from, front}
use Rattle.whole.specs.Pass.{Pass, pass}

module _ {A : Type 0} (same : A → A → Bool) where
  -- a row is given where it differs from the one before
  abbrev pub differing : Pass A A
  differing = record { emit = λ p q. cond (same p q) [] (q ∷ []); next = λ p q. q; last = λ p. [] }

  unfoldable pub distinct : List A → List A
  distinct [] = []
  distinct (q ∷ qs) = q ∷ pass differing q qs

-- what is promised of a list whose first m rows lost their repeats: r rows are left at the front, and the rest is as it was
pub record Dropped {A : Type 0} (R : Kind A) (same : A → A → Bool) (xs : List ℤ) (m : ℕ) (r : ℕ) (ys : List ℤ) : Type 0 where
  pub number : r ≡ length (distinct same (rows_from R xs 0 m))
  pub list : ys ≡ front R xs (distinct same (rows_from R xs 0 m))
