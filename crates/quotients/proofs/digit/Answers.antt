-- `quotients::digit` meets its contract: its three answers are those of proofs/Guess.antt.
use Prim.Native.Nat.{◌+◌, ◌*◌, ◌/◌, ◌%◌, ◌^◌}
use native.Mathlib.Omega.{arith}
use Rattle.limbs.proofs.Words.{upper, lower}
use Rattle.quotients.proofs.Guess.{Guess, guessed, kept, at_least_one, one_less, at_least_two, two-less}
use Rattle.quotients.proofs.digit.Goals as goal
use Rattle.quotients.proofs.digit.Goals.{Start}

guess : (c : Start) → let h = c.args.h in let l = c.args.l in let d = c.args.d in Guess (h * 2 ^ 32 + l) d (h / upper d) (h % upper d * 2 ^ 32 + l) (h / upper d * lower d)
guess c = guessed c.args.h c.args.l c.args.d c.requires.0 c.ranges.d.fits c.requires.1 c.requires.2

pub overflow_mul-have : goal.overflow_mul-have
overflow_mul-have c = let g = guess c in omega arith

pub overflow_add-have : goal.overflow_add-have
overflow_add-have c = let g = guess c in omega arith

pub overflow_mul-want : goal.overflow_mul-want
overflow_mul-want c = let g = guess c in omega arith

pub returns-then-want-have : goal.returns-then-want-have
returns-then-want-have c = kept (guess c.before) (omega arith)

pub overflow_sub-result-then-lack-d : goal.overflow_sub-result-then-lack-d
overflow_sub-result-then-lack-d c = omega (arith, at_least_one (guess c.before.before) (omega arith))

pub returns-then-lack-d : goal.returns-then-lack-d
returns-then-lack-d c = one_less (guess c.before.before) (omega arith) (omega arith)

pub overflow_sub-result-2 : goal.overflow_sub-result-2
overflow_sub-result-2 c = omega (arith, at_least_two (guess c.before.before) (omega arith))

pub overflow_sub-result-4 : goal.overflow_sub-result-4
overflow_sub-result-4 c = let g = guess c.before.before in omega arith

pub returns : goal.returns
returns c = cc (two-less (guess c.before.before) (omega arith))
