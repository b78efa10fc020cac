-- What a look and tidying answer, in document 01's numbers ("Input and answer"): the number of the table, and how many entries the mark list then has.
use Rattle.std.specs.Prelude.{◌≡◌, Bool, ◌||◌, List, ℕ, ◌*◌, ℤ, Result, Ok, Err}
use Rattle.std.proofs.Math.Path.{refl}
use Rattle.std.proofs.Common.{ap, ◌∙◌}
use Rattle.std.proofs.Math.Bool.{true, false, cond}
use Rattle.std.proofs.Math.Dec.{ltb}
use Rattle.std.proofs.Math.ListN.{length}
use Rattle.whole.specs.Kind.{rows_from}
use Rattle.geom.specs.Limits.{segment_limit, mark_room}
use Rattle.geom.specs.Rows.{segments}
use Rattle.faults.specs.Faults.{some, fault}
use Rattle.split.specs.declared.answer.LookError.{LookError}
use Rattle.split.specs.declared.answer.LookError.TheVariants.{Short, OffGrid, NoLength, MarksFull}
use Rattle.split.specs.declared.answer.TidyError.{TidyError}
use Rattle.split.specs.declared.answer.TidyError.TheVariants.{Short as TidyShort}
use Rattle.split.specs.Marks.{marks}
use Rattle.split.specs.Look.{look, tidy}
use Rattle.split.specs.Looked.{counted, look_answer}
use Rattle.split.specs.Tidied.{tidy_answer}

pub record Said : Type 0 where
  pub answer : ℕ
  pub entries : ℕ

-- a refusal returns none
abbrev pub only : ℕ → Said
only k = record { answer = k; entries = 0 }

abbrev pub done : ℕ → Said
done k = record { answer = 0; entries = k }

-- ---- a look

abbrev pub look_says : Result ℕ LookError → Said
look_says (Ok k) = done k
look_says (Err Short) = only 1
look_says (Err OffGrid) = only 3
look_says (Err NoLength) = only 4
look_says (Err MarksFull) = only 7

unfoldable pub look_said : ℕ → List ℤ → ℕ → List ℤ → Said
look_said radius w n xs =
    let L = rows_from segments w 0 n in
    let k = length (look radius L) in
    cond (ltb segment_limit n || ltb (length w) (6 * n)) (only 1)
    (cond (some (fault 3) L) (only 3)
    (cond (some (fault 4) L) (only 4)
    (cond (ltb (mark_room (length xs)) k) (only 7) (done k))))

module _ (radius : ℕ) (w : List ℤ) (n : ℕ) (xs : List ℤ) where
  pub also-looked : {P : Type 0} {r : Result ℕ LookError} → (r ≡ look_answer radius w n xs) × P → (r ≡ look_answer radius w n xs) × ((look_says r ≡ look_said radius w n xs) × P)
  unfolding look_answer counted look_said
  also-looked e =
      let L = rows_from segments w 0 n in
      let k = length (look radius L) in
      (e.0, (ap look_says e.0 ∙ by_tests (ltb segment_limit n || ltb (length w) (6 * n)) (some (fault 3) L) (some (fault 4) L) (ltb (mark_room (length xs)) k) k, e.1))
    where
      by_tests : (s o p f : Bool) (k : ℕ) → look_says (cond s (Err Short) (cond o (Err OffGrid) (cond p (Err NoLength) (cond f (Err MarksFull) (Ok k))))) ≡ cond s (only 1) (cond o (only 3) (cond p (only 4) (cond f (only 7) (done k))))
      by_tests true o p f k = refl
      by_tests false true p f k = refl
      by_tests false false true f k = refl
      by_tests false false false true k = refl
      by_tests false false false false k = refl

-- ---- tidying

abbrev pub tidy_says : Result ℕ TidyError → Said
tidy_says (Ok k) = done k
tidy_says (Err TidyShort) = only 1

unfoldable pub tidy_said : List ℤ → ℕ → Said
tidy_said xs count = cond (ltb (mark_room (length xs)) count) (only 1) (done (length (tidy (rows_from marks xs 0 count))))

module _ (xs : List ℤ) (count : ℕ) where
  pub also_tidied : {P : Type 0} {r : Result ℕ TidyError} → (r ≡ tidy_answer xs count) × P → (r ≡ tidy_answer xs count) × ((tidy_says r ≡ tidy_said xs count) × P)
  unfolding tidy_answer tidy_said
  also_tidied e = (e.0, (ap tidy_says e.0 ∙ by_test (ltb (mark_room (length xs)) count) (length (tidy (rows_from marks xs 0 count))), e.1))
    where
      by_test : (s : Bool) (k : ℕ) → tidy_says (cond s (Err TidyShort) (Ok k)) ≡ cond s (only 1) (done k)
      by_test true k = refl
      by_test false k = refl
