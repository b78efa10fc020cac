-- Laws of the numbers in bytes: how many there are, the last of them, and that to put them into a list is to put them before what stands behind them.
use Rattle.std.specs.Prelude.{◌≡◌, refl, List, [], ◌∷◌, ◌++◌, ℕ, zero, suc, ◌+◌, ◌*◌, ◌≤◌, ℤ, length, drop}
use Rattle.std.proofs.Common.{ap, arith, add-one}
use Rattle.std.proofs.lemmas.List.Edits.{sets, sets-eq}
use Rattle.wire.specs.Bytes.{word_at, signed, numbers_from}

how_many : (bs : List ℕ) (k n : ℕ) → length (numbers_from bs k n) ≡ n
unfolding numbers_from
how_many bs k zero = refl
how_many bs k (suc n) = ap suc (how_many bs (k + 4) n)

last : (bs : List ℕ) (k n : ℕ) → numbers_from bs k (suc n) ≡ numbers_from bs k n ++ (signed (word_at bs (k + 4 * n)) ∷ [])
unfolding numbers_from
last bs k zero = let e : k + 4 * 0 ≡ k = omega arith in rw e
last bs k (suc n) = let e : k + 4 + 4 * n ≡ k + 4 * suc n = omega arith in ap (λ l. signed (word_at bs k) ∷ l) (rw e at (last bs (k + 4) n))

pub one_more : (bs : List ℕ) (k n : ℕ) → numbers_from bs k (n + 1) ≡ numbers_from bs k n ++ (signed (word_at bs (k + 4 * n)) ∷ [])
one_more bs k n = rw (add-one n) (last bs k n)

pub at_front : (bs : List ℕ) (k n : ℕ) (xs : List ℤ) → n ≤ length xs → sets xs 0 (numbers_from bs k n) ≡ numbers_from bs k n ++ drop n xs
at_front bs k n xs h =
    let e = how_many bs k n in
    let all : 0 + n ≡ n = omega arith in
    rw (e, all) at (sets-eq (numbers_from bs k n) xs 0 (omega (arith, e)))
