-- `quotients::nearest` meets its contract. A number of one word is divided by the machine; one of two words is divided after it and the divisor are raised by one factor,
-- which the nearest does not see.
use mathlib.Core.Path.{◌≡◌, sym, ◌∙◌}
use Prim.Native.Nat.{◌+◌, ◌*◌, ◌/◌, ◌%◌, ◌<◌}
use native.Mathlib.Nat.{div-add-mod', mod-lt}
use native.Mathlib.Omega.{arith}
use Rattle.limbs.specs.Limbs.{two-value, value}
use Rattle.limbs.specs.Nearest.{answer-none}
use Rattle.limbs.proofs.Words.{one_word, Divided, quotient_divided}
use Rattle.quotients.proofs.Long.{stays-below, Raises, raises, room}
use Rattle.quotients.proofs.Rounding.{too_high, raised_alike}
use Rattle.quotients.proofs.nearest.Goals as goal
use Rattle.quotients.proofs.nearest.Goals.{After-divide, After-factor-f, After-raised, Else-d-eq0}

some : (c : Else-d-eq0) → 0 < c.args.d
some c = omega arith

pub returns-then-d-eq0 : goal.returns-then-d-eq0
returns-then-d-eq0 c = cc (answer-none (value c.args.n) c.if-d-eq0.true)

pub rounded-requires : goal.rounded-requires
rounded-requires c = mod-lt _ (some c.before.before.before.before)

pub returns-then-n-eq0 : goal.returns-then-n-eq0
returns-then-n-eq0 c =
    let x = c.args in
    let e : x.n.low / x.d * x.d + x.n.low % x.d ≡ value x.n = div-add-mod' x.n.low x.d ∙ one_word x.n c.if-n-eq0.true in
    cc c.rounded.ensures

pub returns-then-d-n : goal.returns-then-d-n
returns-then-d-n c =
    let x = c.args in
    sym (too_high x.n.high x.n.low x.d (some c.before.before.before.before) (omega arith))

lift : (c : After-factor-f) → Raises c.args.d c.factor-f.result
lift c =
    rw c.factor-f.ensures (raises c.args.d (some c.before.before.before.before.before) c.ranges.d.fits)

pub overflow_mul-divisor : goal.overflow_mul-divisor
overflow_mul-divisor c = record { fits = (lift c).fits }

pub raised-requires : goal.raised-requires
raised-requires c = ((lift c).some, room (lift c) (omega arith))

multiple : (c : After-raised) → value c.raised.result ≡ value c.args.n * c.factor-f.result
multiple c = two-value c.raised.result _ c.raised.ensures

pub divide-requires : goal.divide-requires
divide-requires c =
    ((lift c.before).top, stays-below c.raised.result.low (multiple c) (omega arith) (omega arith) (lift c.before).some)

divided : (c : After-divide) → Divided (value c.raised.result) (c.args.d * c.factor-f.result) c.divide.result.whole c.divide.result.rest
divided c = let x = lift c.before.before in quotient_divided c.divide.result _ _ (omega arith) c.divide.ensures

pub rounded-requires-2 : goal.rounded-requires-2
rounded-requires-2 c = (divided c).below

pub returns : goal.returns
returns c =
    let x = c.args in
    cc (c.rounded-2.ensures, (divided c.before).sum, multiple c.before.before, raised_alike (value x.n) x.d c.factor-f.result (some c.before.before.before.before.before.before.before.before) (lift c.before.before.before).some)
