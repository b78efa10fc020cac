-- The rules' numbers run from 0 to 3. Assumes nothing.
use Rattle.std.specs.Prelude.{◌<◌}
use Rattle.std.proofs.Common.{arith}
use Rattle.fills.specs.Inside.{number_of}
use Rattle.fills.specs.declared.FillRule.{FillRule}
use Rattle.fills.specs.declared.FillRule.TheVariants.{EvenOdd, NonZero, Positive, Negative}

pub number_below_four : (r : FillRule) → number_of r < 4
number_below_four EvenOdd = omega arith
number_below_four NonZero = omega arith
number_below_four Positive = omega arith
number_below_four Negative = omega arith
