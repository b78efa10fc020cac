-- `crossed` meets its contract: a crossing inside both pushes a mark of each.
use Rattle.std.proofs.Common.{sym, ◌∙◌}
use Rattle.whole.specs.AppendLaws.{added_more}
use Rattle.split.specs.Look.{cross_marks, kind_marks}
use Rattle.pairwise.proofs.crossed.Goals as goal

pub returns-in-Pure : goal.returns-in-Pure
unfolding cross_marks kind_marks
returns-in-Pure c =
    rw (sym c.crossing.ensures ∙ c.in-Some.is, c.in-Pure.is) (added_more c.push-next.ensures c.push.ensures)
