-- The digits allowed fall with each call.
use Rattle.text.proofs.+decimal.Given as goal

abbrev pub decreases-decimal : goal.decreases-decimal
decreases-decimal l = l.k
