-- Document 01's number, m and looks of each answer ("Input and answer"): every refusal returns zero segments and zero looks.
use Rattle.std.specs.Prelude.{Result, Ok, Err, ℕ}
use Rattle.checks.specs.declared.Fault.{Fault}
use Rattle.checks.specs.declared.Fault.TheVariants as fault
use Rattle.overlay.specs.declared.answer.Settled.{Settled}
use Rattle.overlay.specs.declared.answer.Refusal.{Refusal}
use Rattle.overlay.specs.declared.answer.Refusal.TheVariants.{Short, BadSettings, OffGrid, NoLength, BadCount, Open, MarksFull, WorkFull, TooBig, Unsettled, ScanFull}

pub record Told : Type 0 where
  pub number : ℕ
  pub segments : ℕ
  pub looks : ℕ

abbrev pub answer0 : ℕ → ℕ → Told
answer0 m looks = record { number = 0; segments = m; looks = looks }

abbrev pub refusal : ℕ → Told
refusal k = record { number = k; segments = 0; looks = 0 }

abbrev pub number_of : Refusal → ℕ
number_of Short = 1
number_of BadSettings = 2
number_of OffGrid = 3
number_of NoLength = 4
number_of BadCount = 5
number_of Open = 6
number_of MarksFull = 7
number_of WorkFull = 8
number_of TooBig = 9
number_of Unsettled = 10
number_of ScanFull = 11

-- the refusal of a fault of the input
abbrev pub refusal_of : Fault → Refusal
refusal_of fault.Short = Short
refusal_of fault.BadSettings = BadSettings
refusal_of fault.OffGrid = OffGrid
refusal_of fault.NoLength = NoLength
refusal_of fault.BadCount = BadCount
refusal_of fault.Open = Open

abbrev pub Answer : Type 0
Answer = Result Settled Refusal

abbrev pub told : Answer → Told
told (Ok s) = answer0 s.segments s.looks
told (Err r) = refusal (number_of r)
