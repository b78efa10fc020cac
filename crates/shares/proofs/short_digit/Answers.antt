-- `shares::short_digit` meets its contract: 1 is taken off the guess exactly where it wants more than there is.
use native.Mathlib.Omega.{arith}
use Rattle.shares.proofs.Short.{Short, short, counted}
use Rattle.shares.proofs.short_digit.Goals as goal
use Rattle.shares.proofs.short_digit.Goals.{Start}

guess : (c : Start) → Short c.args.h c.args.l c.args.d
guess c = short c.args.h c.args.l c.args.d c.requires.0 c.ranges.d.fits c.requires.1 c.requires.2

pub overflow_mul-have : goal.overflow_mul-have
overflow_mul-have c = let g = (guess c).guess in omega arith

pub overflow_add-have : goal.overflow_add-have
overflow_add-have c = let g = (guess c).guess in omega arith

pub overflow_mul-guess : goal.overflow_mul-guess
overflow_mul-guess c = let g = (guess c).guess in omega arith

pub overflow_sub-result : goal.overflow_sub-result
overflow_sub-result c = (counted (guess c.before) c.from.ensures).0

pub returns : goal.returns
returns c = (counted (guess c.before) c.from.ensures).1
