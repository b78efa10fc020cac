-- The lent lists of a run, and what it ends with, in document 01's numbers.
use Rattle.std.specs.Prelude.{List, ℕ, ℤ}
use Rattle.overlay.specs.Numbers.{Answer, told}
use Rattle.overlay.specs.Outcome.{Lent, Outcome}

abbrev pub lent : List ℤ → List ℤ → List ℤ → List ℕ → Lent
lent work marks scan masks = record { work = work; marks = marks; scan = scan; masks = masks }

abbrev pub ended : Answer → List ℤ → List ℤ → List ℤ → List ℕ → Outcome
ended a work marks scan masks = record { answer = told a; lists = lent work marks scan masks }
