-- Sorting and merging in one ("The run", and refusal 9): what is answered, and what the work list then holds.
use Rattle.std.specs.Prelude.{cond, List, ℕ, ℤ, length, Result, Ok, Err}
use Rattle.whole.specs.Kind.{front}
use Rattle.geom.specs.declared.Segment.{Segment}
use Rattle.geom.specs.Rows.{segments}
use Rattle.segm.specs.Forward.{sorted}
use Rattle.segm.specs.Merge.{merged, too_big, list_of}
use Rattle.steps.specs.declared.TooBig.{TooBig}

-- how many rows are left, or 9
unfoldable pub join_answer : List Segment → Result ℕ TooBig
join_answer K = cond (too_big (sorted K)) (Err (record {})) (Ok (length (merged (sorted K))))

-- the sorted rows, and over them the merged ones; wholly zero after 9
unfoldable pub join_list : List ℤ → List Segment → List ℤ
join_list xs K = list_of (front segments xs (sorted K)) (sorted K)
