-- `quotients::raised` meets its contract: the low word's multiple carries less than the factor into the high word's.
use mathlib.Core.Path.{◌≡◌}
use Prim.Native.Nat.{◌*◌, ◌<◌}
use native.Mathlib.Omega.{arith}
use Rattle.limbs.specs.Limbs.{two-value, value}
use Rattle.limbs.proofs.Words.{two_is}
use Rattle.quotients.proofs.Long.{carry_below, carry_over}
use Rattle.quotients.proofs.raised.Goals as goal
use Rattle.quotients.proofs.raised.Goals.{After-product-carried}

carried : (c : After-product-carried) → value c.product-carried.result ≡ c.args.n.low * c.args.f
carried c = two-value c.product-carried.result _ c.product-carried.ensures

carry : (c : After-product-carried) → c.product-carried.result.high < c.args.f
carry c = carry_below c.product-carried.result.low (carried c) (omega arith) c.requires.0

pub overflow_add-result : goal.overflow_add-result
overflow_add-result c = omega (arith, carry c.before.before)

pub returns : goal.returns
returns c =
    two_is _ _ _ (carry_over c.args.n.high c.args.n.low c.args.f c.product-carried.result.high c.product-carried.result.low (carried c.before.before)) (omega arith)
