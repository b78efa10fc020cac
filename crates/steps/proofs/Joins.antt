-- What sorting leaves is the list in order, and merging makes of it the answer: with room for the rows it never answers 1.
use mathlib.Core.Path.{◌≡◌, refl, sym, ap, ◌∙◌}
use mathlib.Core.Bool.{Bool, true, false, cond}
use mathlib.Core.List.{List}
use Prim.Native.Nat.{ℕ, ◌*◌, ◌≤◌}
use native.Mathlib.Omega.{arith}
use lib.IntN.{ℤ}
use lib.ListN.{length}
use lib.Signed.{lt_z}
use Rattle.std.specs.Prelude.{Result, Ok, Err}
use Rattle.whole.specs.Kind.{rows_from, front}
use Rattle.whole.proofs.KindLaws.{length-rows, rows-front, length_front}
use Rattle.whole.proofs.SortingLaws.{sort-length}
use Rattle.geom.specs.declared.Segment.{Segment}
use Rattle.geom.specs.Limits.{segment_limit}
use Rattle.geom.specs.Rows.{segments}
use Rattle.rows.specs.Sorted.{fitting, in_order as rowsInOrder}
use Rattle.rows.proofs.SortedLaws.{fitting-true, in_order-kind}
use Rattle.segm.specs.declared.Merged.{Merged}
use Rattle.segm.specs.declared.MergeError.{MergeError}
use Rattle.segm.specs.declared.MergeError.TheVariants.{TooBig as Outside}
use Rattle.segm.specs.Forward.{in_order, sorted}
use Rattle.segm.specs.Merge.{merged, too_big, paired, merge_answer, merge_list, too_short}
use Rattle.segm.proofs.MergeLaws.{enough}
use Rattle.steps.specs.declared.TooBig.{TooBig}
use Rattle.steps.specs.Joining.{join_answer, join_list}

-- what an answer of merging says of the rows
unfoldable pub said : Result Merged MergeError → Result ℕ TooBig
said (Ok m) = Ok m.left
said (Err e) = Err (record {})

said-answer : (far pair : Bool) (k : ℕ) → said (cond far (Err Outside) (Ok (record { left = k; joined = pair }))) ≡ cond far (Err (record {})) (Ok k)
unfolding said
said-answer true pair k = refl
said-answer false pair k = refl

module _ (xs : List ℤ) (n : ℕ) (few : n ≤ segment_limit) (room : 6 * n ≤ length xs) where
  abbrev K : List Segment
  K = rows_from segments xs 0 n

  same_number : n ≡ length (sorted K)
  same_number = sym (sort-length in_order K ∙ length-rows segments xs 0 n)

  sorted-rows : rows_from segments (front segments xs (sorted K)) 0 n ≡ sorted K
  sorted-rows = ap (rows_from segments (front segments xs (sorted K)) 0) same_number ∙ rows-front segments xs (sorted K)

  pub sorted-list : {r : Bool} {ys : List ℤ} → r ≡ fitting n 6 (length xs) → ys ≡ cond r (rowsInOrder lt_z n 6 xs) xs → ys ≡ front segments xs (sorted K)
  sorted-list e f =
      let t = fitting-true n 6 (length xs) (omega arith) (omega arith) in
      f ∙ rw (e, t) (in_order-kind segments lt_z n xs room)

  not_short : too_short (front segments xs (sorted K)) n ≡ false
  not_short = enough (front segments xs (sorted K)) n few (omega (arith, length_front segments xs (sorted K) (omega (arith, same_number))))

  pub joined : {ys zs : List ℤ} {r : Result Merged MergeError} → ys ≡ front segments xs (sorted K) → r ≡ merge_answer ys n → zs ≡ merge_list ys n
      → (said r ≡ join_answer K) × (zs ≡ join_list xs K)
  unfolding merge_answer merge_list join_answer join_list
  joined y e f = (
    ap said (e ∙ rw (y, not_short, sorted-rows)) ∙ said-answer (too_big (sorted K)) (paired (sorted K)) (length (merged (sorted K))),
    f ∙ rw (y, not_short, sorted-rows),
  )
