-- `quotients::rounded` meets its contract: a rest of half the divisor, or more, counts up.
use mathlib.Core.Path.{sym, ◌∙◌}
use native.Mathlib.Omega.{arith}
use Rattle.limbs.specs.Nearest.{answer-whole}
use Rattle.quotients.proofs.Rounding.{down, up, word_or_large}
use Rattle.quotients.proofs.rounded.Goals as goal

pub returns-then-x-d : goal.returns-then-x-d
returns-then-x-d c = sym (answer-whole (omega arith) (down _ (omega arith)) (omega arith))

pub returns-else-x-d : goal.returns-else-x-d
returns-else-x-d c = c.next.ensures ∙ word_or_large (omega arith) (up _ (omega arith) (omega arith))
