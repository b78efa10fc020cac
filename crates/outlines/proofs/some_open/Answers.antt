-- `outlines::some_open` meets its contract: a list is open where some row has an open end.
use mathlib.Core.Path.{sym, ◌∙◌}
use borrow.Author.Rules.{rules}
use Rattle.whole.specs.Kind.{rows_from}
use Rattle.geom.specs.Rows.{segments}
use Rattle.outlines.specs.Net.{has_open_end}
use Rattle.outlines.proofs.Ends.{open_is}
use Rattle.outlines.proofs.some_open.Goals as goal

pub returns : goal.returns
returns c =
    c.some_row.ensures (has_open_end (rows_from segments c.args.rows.now 0 c.args.n)) (λ v r h. search rules)
    ∙ sym (open_is (rows_from segments c.args.rows.now 0 c.args.n))
