-- The rules' numbers run from 0 to 6. Assumes nothing.
use Rattle.std.specs.Prelude.{◌<◌}
use Rattle.std.proofs.Common.{arith}
use Rattle.rules.specs.Keep.{number_of}
use Rattle.rules.specs.declared.OverlayRule.{OverlayRule}
use Rattle.rules.specs.declared.OverlayRule.TheVariants.{Subject, Clip, Intersect, Union, Difference, InverseDifference, Xor}

pub number_below_seven : (r : OverlayRule) → number_of r < 7
number_below_seven Subject = omega arith
number_below_seven Clip = omega arith
number_below_seven Intersect = omega arith
number_below_seven Union = omega arith
number_below_seven Difference = omega arith
number_below_seven InverseDifference = omega arith
number_below_seven Xor = omega arith
