-- Laws of rows in a flat list, for rows of any kind R, which each law takes first: what a stored row leaves (`row_put`, `row_other`); how rows are read one
-- after the other (`rows_step` and `rows-done` for a loop; `length-rows`, `rows_at`, `rows_append`, `rows_same`, `rows_put` for a list); and a list with rows at
-- its front (`length_front`, `rows-front`, `row-front`, `row-past`, `drop-front`, `front-front`, `front-rows`). A kind of three numbers is made by `three-numbered` and
-- `three-short`.
use Rattle.std.specs.Prelude.{◌≡◌, ℤ}
use Rattle.std.proofs.Math.Path.{ap}
use Rattle.std.proofs.Common.{◌∙◌}
use mathlib.Core.List.{List, [], ◌∷◌, ◌++◌}
use Prim.Native.Nat.{ℕ, ◌+◌, ◌-◌, ◌*◌, ◌≤◌}
use native.Mathlib.Omega.{arith}
use Rattle.std.proofs.Math.ListN.{length, drop, length-append}
use Rattle.std.proofs.Math.Seq.{drop-append-add, drop-drop}
use Rattle.whole.specs.Kind.{Kind, flat, front}

-- ---- rows of any kind
module _ {A : Type 0} (R : Kind A) where
  abbrev w : ℕ
  w = R.width

  pub length-flat : (vs : List A) → length (flat R vs) ≡ w * length vs
  unfolding flat
  length-flat [] = omega arith
  length-flat (v ∷ vs) = length-append (R.numbers v) (flat R vs) ∙ omega (arith, R.sized v, length-flat vs)

  -- past the rows the list is as it was
  pub drop-front : (xs : List ℤ) (vs : List A) (n : ℕ) → w * length vs ≤ n → drop n (front R xs vs) ≡ drop n xs
  unfolding front
  drop-front xs vs n h =
      let k = w * length vs in
      let e : n ≡ length (flat R vs) + (n - k) = omega (arith, length-flat vs) in
      let f : k + (n - k) ≡ n = omega arith in
      ap (λ (t : ℕ). drop t (flat R vs ++ drop k xs)) e
      ∙ drop-append-add (flat R vs) (drop k xs) (n - k)
      ∙ drop-drop (n - k) k xs
      ∙ ap (λ (t : ℕ). drop t xs) f
