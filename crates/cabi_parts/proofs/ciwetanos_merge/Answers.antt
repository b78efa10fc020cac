-- `ciwetanos_merge` meets its contract: what `merge` answers and leaves.
use mathlib.Core.Path.{ap, ◌∙◌}
use Rattle.cabi_parts.specs.Parts.{rows_in}
use Rattle.cabi_parts.proofs.ciwetanos_merge.Goals as goal

pub returns : goal.returns
returns c =
    let m = c.merge.ensures in
    record { value = c.rows_in.ensures ∙ ap rows_in m.value; work_after = m.work_after }
