-- `turns::area` meets its contract: a product of two gaps stays below 2^62.
use Rattle.std.proofs.Common.{arith, to_z-of_z}
use Rattle.geom.proofs.Bounds.{gap_fits, area_fits}
use Rattle.turns.proofs.area.Goals as goal

pub returns : goal.returns
returns c = grind (arith, to_z-of_z, gap_fits, area_fits)

pub overflow_mul-result : goal.overflow_mul-result
overflow_mul-result c = grind (arith, to_z-of_z, gap_fits, area_fits)
