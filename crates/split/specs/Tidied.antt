-- What tidying answers, and what the mark list then holds ("The run": marks sorted by segment, x, y, repeats dropped).
use Rattle.std.specs.Prelude.{cond, List, ℕ, ltb, ℤ, length, Result, Ok, Err}
use Rattle.whole.specs.Kind.{rows_from, front}
use Rattle.whole.specs.Sorting.{sort}
use Rattle.geom.specs.Limits.{mark_room}
use Rattle.split.specs.declared.answer.TidyError.{TidyError}
use Rattle.split.specs.declared.answer.TidyError.TheVariants.{Short}
use Rattle.split.specs.Marks.{marks}
use Rattle.split.specs.Look.{mark_order, tidy}

-- 1 where the first `count` marks are more than the list's capacity
unfoldable pub tidy_answer : List ℤ → ℕ → Result ℕ TidyError
tidy_answer xs count = cond (ltb (mark_room (length xs)) count) (Err Short) (Ok (length (tidy (rows_from marks xs 0 count))))

-- the list after an answer: the tidy marks at the front, written over the sorted ones; 1 changes nothing
unfoldable pub tidy_list : Result ℕ TidyError → List ℤ → ℕ → List ℤ
tidy_list (Ok k) xs count = let ms = rows_from marks xs 0 count in front marks (front marks xs (sort mark_order ms)) (tidy ms)
tidy_list (Err Short) xs count = xs
