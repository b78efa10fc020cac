-- `ciwetanos_sweep` meets its contract: what `fill` answers and leaves.
use Rattle.cabi_parts.proofs.ciwetanos_sweep.Goals as goal

pub returns : goal.returns
returns c = cc
