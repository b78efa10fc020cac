-- The report of an answer: what document 01 tells of it ("Input and answer"), as three numbers.
use Rattle.overlay.specs.Numbers.{Told}
use Rattle.report.specs.declared.Report.{Report}

abbrev pub reported : Told → Report
reported t = record { answer = t.number; segments = t.segments; looks = t.looks }
