-- `turns::turn` meets its contract: the difference of two areas stays below 2^63.
use Rattle.std.proofs.Common.{arith, to_z-of_z}
use Rattle.geom.specs.Plane.{turn}
use Rattle.geom.proofs.Bounds.{area_fits, turn-fits}
use Rattle.turns.proofs.turn.Goals as goal

pub overflow_sub-result : goal.overflow_sub-result
unfolding turn
overflow_sub-result c = grind (arith, to_z-of_z, area_fits, turn-fits)

pub returns : goal.returns
unfolding turn
returns c = grind (arith, to_z-of_z, area_fits, turn-fits)
