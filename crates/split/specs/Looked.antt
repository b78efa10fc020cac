-- What a look answers ("Input and answer"): 1, 3, 4 and 7, in that order.
use Rattle.std.specs.Prelude.{cond, ◌||◌, List, ℕ, ◌*◌, ltb, ℤ, length, Result, Ok, Err}
use Rattle.whole.specs.Kind.{rows_from}
use Rattle.geom.specs.Limits.{segment_limit, mark_room}
use Rattle.geom.specs.Rows.{segments}
use Rattle.split.specs.declared.answer.LookError.{LookError}
use Rattle.split.specs.declared.answer.LookError.TheVariants.{Short, OffGrid, NoLength, MarksFull}
use Rattle.split.specs.declared.answer.Mark.{Mark}
use Rattle.faults.specs.Faults.{some, is_off, is_point}
use Rattle.split.specs.Look.{look}

-- 7 exactly if the look yields more marks, repeats counted, than the list has room for
unfoldable pub counted : ℕ → List Mark → Result ℕ LookError
counted room ms = cond (ltb room (length ms)) (Err MarksFull) (Ok (length ms))

-- of the first n segments of w, with the mark list xs
unfoldable pub look_answer : ℕ → List ℤ → ℕ → List ℤ → Result ℕ LookError
look_answer radius w n xs =
    let L = rows_from segments w 0 n in
    let r = counted (mark_room (length xs)) (look radius L) in
    cond (ltb segment_limit n || ltb (length w) (6 * n)) (Err Short)
    (cond (some is_off L) (Err OffGrid)
    (cond (some is_point L) (Err NoLength) r))
