-- `ciwetanos_look` meets its contract: what `look` answers and leaves.
use mathlib.Core.Path.{ap, ◌∙◌}
use Rattle.cabi_parts.specs.Parts.{marks_in}
use Rattle.cabi_parts.proofs.ciwetanos_look.Goals as goal

pub returns : goal.returns
returns c =
    let l = c.look.ensures in
    record { value = c.marks_in.ensures ∙ ap marks_in l.value; marks_after = rw l.value at l.marks_after }
