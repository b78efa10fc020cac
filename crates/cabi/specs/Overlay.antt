-- The outcome of a run for a caller that takes no enum: the answer as three numbers, and the lists ("Input and answer").
use Rattle.std.specs.Prelude.{ℕ}
use Rattle.checks.specs.declared.Settings.{Settings}
use Rattle.overlay.specs.Outcome.{Lent, Outcome}
use Rattle.report.specs.declared.Report.{Report}
use Rattle.report.specs.Report.{reported}

abbrev pub settings_of : ℕ → ℕ → ℕ → ℕ → Settings
settings_of n fill rule budget = record { n = n; fill = fill; rule = rule; budget = budget }

pub record Handed : Type 0 where
  pub report : Report
  pub lists : Lent

abbrev pub handed : Report → Lent → Handed
handed r l = record { report = r; lists = l }

abbrev pub told : Outcome → Handed
told o = handed (reported o.answer) o.lists
