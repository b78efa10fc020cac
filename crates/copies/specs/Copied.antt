-- The front of one list copied over another ("Input and answer": the lists are lent, and the input is never written).
use Rattle.std.specs.Prelude.{◌≡◌, Bool, ◌&&◌, List, ◌++◌, ℕ, ◌≤◌, leb, length, take, drop}
use Rattle.std.proofs.Common.{arith, length-append, length-drop}
use Rattle.std.proofs.Math.Seq.{length-take-le, take_at, drop_at}

module _ {A : Type 0} where
  -- both lists have n elements at least
  abbrev pub both_hold : ℕ → List A → List A → Bool
  both_hold n xs ys = leb n (length xs) && leb n (length ys)

  -- ys, with the first n elements of xs in place of its own
  unfoldable pub copied : ℕ → List A → List A → List A
  copied n xs ys = take n xs ++ drop n ys

  module _ (n : ℕ) (xs ys : List A) (h : n ≤ length xs) where
    pub copied-front : take n (copied n xs ys) ≡ take n xs
    unfolding copied
    copied-front = take_at (take n xs) (drop n ys) n (length-take-le n xs h)

    pub copied-rest : drop n (copied n xs ys) ≡ drop n ys
    unfolding copied
    copied-rest = drop_at (take n xs) (drop n ys) n (length-take-le n xs h)

    pub copied-length : n ≤ length ys → length (copied n xs ys) ≡ length ys
    unfolding copied
    copied-length k = simp (length-append, length-drop) (omega (arith, length-take-le n xs h))
