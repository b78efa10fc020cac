-- `quotients::divide` meets its contract: the upper digit's rest goes on to the lower digit, and the two digits make the quotient.
use Prim.Native.Nat.{◌+◌, ◌*◌, ◌^◌, ◌<◌}
use native.Mathlib.Omega.{arith}
use Rattle.limbs.proofs.Words.{upper, lower, Divided, quotient_is, quotient_divided}
use Rattle.quotients.proofs.Long.{one_digit, two_digits}
use Rattle.quotients.proofs.divide.Goals as goal
use Rattle.quotients.proofs.divide.Goals.{After-digit-lower, After-digit-upper}

first : (c : After-digit-upper) → let x = c.args in Divided (x.n.high * 2 ^ 32 + upper x.n.low) x.d c.digit-upper.result.whole c.digit-upper.result.rest
first c = let p = c.requires in quotient_divided _ _ _ (omega arith) c.digit-upper.ensures

second : (c : After-digit-lower) → let x = c.args in Divided (c.digit-upper.result.rest * 2 ^ 32 + lower x.n.low) x.d c.digit-lower.result.whole c.digit-lower.result.rest
second c = let p = c.requires in quotient_divided _ _ _ (omega arith) (cc)

first_short : (c : After-digit-upper) → c.digit-upper.result.whole < 2 ^ 32
first_short c = one_digit c.args.n.high (upper c.args.n.low) (first c) c.requires.1 (omega arith)

second_short : (c : After-digit-lower) → c.digit-lower.result.whole < 2 ^ 32
second_short c =
    one_digit c.digit-upper.result.rest (lower c.args.n.low) (second c) (first c.before.before).below (omega arith)

pub digit-lower-requires : goal.digit-lower-requires
digit-lower-requires c = (c.requires.0, (first c.before).below, omega arith)

pub overflow_mul-result : goal.overflow_mul-result
overflow_mul-result c = omega (arith, first_short c.before.before.before)

pub overflow_add-result : goal.overflow_add-result
overflow_add-result c = omega (arith, first_short c.before.before.before.before, second_short c.before.before)

pub returns : goal.returns
returns c =
    let n = c.args.n in
    quotient_is (two_digits n.high n.low (first c.before.before.before.before) (second c.before.before))
