-- A list that takes rows one after the other as long as there is room, and counts those for which there was none: so a promise has no case for a full list.
use Rattle.std.specs.Prelude.{◌≡◌, cond, List, [], ◌∷◌, ℕ, suc, ◌+◌, ltb, ℤ, length}
use Rattle.whole.specs.Kind.{Kind, put_row}

module _ {A : Type 0} (R : Kind A) where
  -- the list when row number k comes: taken if there is room
  unfoldable pub put_next : ℕ → List ℤ → ℕ → A → List ℤ
  put_next room xs k v = cond (ltb k room) (put_row R xs k v) xs

  unfoldable pub put_all : ℕ → List ℤ → ℕ → List A → List ℤ
  put_all room xs k [] = xs
  put_all room xs k (v ∷ vs) = put_all room (put_next room xs k v) (suc k) vs

-- what is promised where rows come to a list that holds `count`: how many have come then, and the list with those that fit
pub record Added {A : Type 0} (R : Kind A) (room count : ℕ) (xs : List ℤ) (vs : List A) (r : ℕ) (ys : List ℤ) : Type 0 where
  pub number : r ≡ count + length vs
  pub list : ys ≡ put_all R room xs count vs
