-- What the mark list holds after a look ("Input and answer").
use Rattle.std.specs.Prelude.{List, ℕ, ℤ, pos, length, replicate, Result, Ok, Err}
use Rattle.whole.specs.Kind.{front}
use Rattle.split.specs.declared.answer.LookError.{LookError}
use Rattle.split.specs.declared.answer.LookError.TheVariants.{Short, OffGrid, NoLength, MarksFull}
use Rattle.split.specs.declared.answer.Mark.{Mark}
use Rattle.split.specs.Marks.{marks}

-- the mark list after an answer: the marks at the front and the rest as it was; 7 sets it wholly to zero, and 1, 3 and 4 change nothing
unfoldable pub look_list : Result ℕ LookError → List Mark → List ℤ → List ℤ
look_list (Ok k) ms xs = front marks xs ms
look_list (Err MarksFull) ms xs = replicate (length xs) (pos 0)
look_list (Err Short) ms xs = xs
look_list (Err OffGrid) ms xs = xs
look_list (Err NoLength) ms xs = xs
