-- A list by its places: what holds of all its members or pairs holds at each place, or each two, and so of the rows and bytes that a run leaves.
use Rattle.std.specs.Prelude.{List, [], ◌∷◌, ℕ, zero, suc, ◌<◌, length, get_or}
use Rattle.std.proofs.Common.{arith}
use Rattle.whole.specs.Sum.{In, here, there}

module _ {A : Type 0} (d : A) where
  pub in_at : (L : List A) (k : ℕ) → k < length L → In (get_or L k d) L
  in_at [] k h = absurd (omega arith)
  in_at (t ∷ L) zero h = here
  in_at (t ∷ L) (suc k) h = there (in_at L k (omega arith))
