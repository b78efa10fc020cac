-- What holds of every pair of a list holds at its places.
use Rattle.std.specs.Prelude.{List, [], ◌∷◌, ℕ, zero, suc, ◌<◌, length, get_or}
use Rattle.std.proofs.Common.{arith}
use Rattle.whole.specs.Sum.{Pairs, pair}
use Rattle.whole.proofs.SumLaws.{all_in}
use Rattle.demands.specs.Places.{in_at}

module _ {A : Type 0} (d : A) where
  pub pairs_at : {R : A → A → Type 0} {L : List A} → Pairs R L → (i j : ℕ) → i < j → j < length L → R (get_or L i d) (get_or L j d)
  pairs_at {L = []} p i j h k = absurd (omega arith)
  pairs_at {L = t ∷ L} (pair a p) zero zero h k = absurd (omega arith)
  pairs_at {L = t ∷ L} (pair a p) zero (suc j) h k = all_in ((in_at d) L j (omega arith)) a
  pairs_at {L = t ∷ L} (pair a p) (suc i) zero h k = absurd (omega arith)
  pairs_at {L = t ∷ L} (pair a p) (suc i) (suc j) h k = pairs_at p i j (omega arith) (omega arith)
