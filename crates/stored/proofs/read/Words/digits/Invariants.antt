-- Each turn takes a byte off the text.
use Rattle.std.proofs.Common.{length}
use Rattle.stored.proofs.read.Words.digits.Given as goal

abbrev pub decreases-loop-self : goal.decreases-loop-self
decreases-loop-self l = length l.self.rest.now
