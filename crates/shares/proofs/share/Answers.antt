-- `shares::share` meets its contract. A number that a word holds is divided by the machine; otherwise it and the divisor are raised by one factor, which the
-- quotient does not see, and one digit is the quotient.
use mathlib.Core.Path.{sym, ap, ◌∙◌}
use Prim.Native.Nat.{ℕ, ◌+◌, ◌*◌, ◌/◌, ◌^◌, ◌<◌}
use native.Mathlib.Nat.{mul-div-mul_right}
use native.Mathlib.Omega.{arith}
use Rattle.limbs.proofs.Words.{lower}
use Rattle.quotients.proofs.Long.{Raises, raises}
use Rattle.shares.proofs.Halves.{half_added, room, first, high, Parts, parts, factor_short, Raised, raised}
use Rattle.shares.proofs.share.Goals as goal
use Rattle.shares.proofs.share.Goals.{After-factor-f, Start, Then-h-lt4294967296}

split : (c : Start) → Parts c.args.n c.args.d c.args.a
split c = parts c.args.n c.args.d c.args.a c.ranges.n.fits c.requires.0 c.requires.1 c.requires.2

pub overflow_mul-first : goal.overflow_mul-first
overflow_mul-first c = let p = split c in omega arith

pub overflow_add-first : goal.overflow_add-first
overflow_add-first c = let p = split c in omega arith

pub overflow_mul-h : goal.overflow_mul-h
overflow_mul-h c = let p = split c in omega arith

pub overflow_add-h : goal.overflow_add-h
overflow_add-h c = let p = split c in omega arith

pub overflow_add-h-2 : goal.overflow_add-h-2
overflow_add-h-2 c = let p = split c in omega arith

-- ---- in one word

fits : (c : Then-h-lt4294967296) → let x = c.args in x.n * x.a + x.d / 2 < 2 ^ 64
fits c = let p = split c.before in omega arith

pub overflow_mul-result : goal.overflow_mul-result
overflow_mul-result c = let h = fits c in record { fits = omega arith }

pub overflow_add-result : goal.overflow_add-result
overflow_add-result c = record { fits = fits c }

pub returns-then-h-lt4294967296 : goal.returns-then-h-lt4294967296
returns-then-h-lt4294967296 c = sym (half_added (c.args.n * c.args.a) c.args.d c.requires.0)

-- ---- raised

lift : (c : After-factor-f) → Raises c.args.d c.factor-f.result
lift c = rw c.factor-f.ensures (raises c.args.d c.requires.0 c.ranges.d.fits)

numbers : (c : After-factor-f) → let x = c.args in Raised (x.n * x.a + x.d / 2) x.d c.factor-f.result (high x.n x.d x.a) (lower (first x.n x.d x.a))
numbers c = let p = split c.before.before in raised (lift c) p.sum p.small

pub overflow_mul-low : goal.overflow_mul-low
overflow_mul-low c =
    let x = c.args in
    let m = room (lower (first x.n x.d x.a)) c.factor-f.result (omega arith) (factor_short (lift c) c.if-h-lt4294967296.false (split c.before.before).below) in
    omega arith

pub overflow_mul-h-2 : goal.overflow_mul-h-2
overflow_mul-h-2 c = let l = lift c in let n = numbers c in omega arith

pub overflow_add-h-3 : goal.overflow_add-h-3
overflow_add-h-3 c = let l = lift c in let n = numbers c in omega arith

pub overflow_mul-d : goal.overflow_mul-d
overflow_mul-d c = record { fits = (lift c).fits }

pub short_digit-requires : goal.short_digit-requires
short_digit-requires c = ((lift c).top, (numbers c).below, omega arith)

pub returns : goal.returns
returns c =
    let x = c.args in
    c.short_digit.ensures
    ∙ ap (λ (m : ℕ). m / (x.d * c.factor-f.result)) (numbers c.before).sum
    ∙ mul-div-mul_right (x.n * x.a + x.d / 2) x.d (lift c.before).some
    ∙ sym (half_added (x.n * x.a) x.d c.requires.0)
