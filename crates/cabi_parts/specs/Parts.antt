-- The answers of the parts, for a caller that only times them: how many rows or marks, 0 after a refusal.
use Rattle.std.specs.Prelude.{ℕ, Result, Ok, Err}
use Rattle.segm.specs.declared.Merged.{Merged}
use Rattle.segm.specs.declared.MergeError.{MergeError}
use Rattle.split.specs.declared.answer.LookError.{LookError}

abbrev pub rows_in : Result Merged MergeError → ℕ
rows_in (Ok m) = m.left
rows_in (Err e) = 0

abbrev pub marks_in : Result ℕ LookError → ℕ
marks_in (Ok k) = k
marks_in (Err e) = 0
