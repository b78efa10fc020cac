-- `faults::some_row` meets its contract: the chain asks the test of each row's number, and what it answers of the numbers it answers of the rows.
use Rattle.std.proofs.Common.{rules, ◌∙◌}
use Rattle.std.proofs.lemmas.Iterator.{YieldsList-from_range}
use Rattle.std.proofs.lemmas.Iterator.Search.{any_from_yields_List}
use Rattle.whole.specs.Kind.{row_at}
use Rattle.geom.specs.Rows.{segments}
use Rattle.faults.proofs.Some.{any_row}
use Rattle.faults.proofs.some_row.Goals as goal

pub returns : goal.returns
returns g c =
    λ p h.
    any_from_yields_List (λ i. p (row_at segments c.args.rows.now i)) _ _ _ c.any.ensures.ran (YieldsList-from_range 0 c.args.n c.args.n (search rules) (search rules)) (λ x b q k. search (rules, h))
    ∙ any_row p c.args.rows.now 0 c.args.n
