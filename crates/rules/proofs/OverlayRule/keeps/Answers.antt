-- `keeps` in its 112 cases. A mask that reaches a return is none of those with the other answer: `omega` reads that off the tests on the
-- way, and `grind` where a match also tests two masks singly. So the mask has this answer.
use mathlib.Core.Path.{◌≡◌, ◌∙◌, ap, sym}
use mathlib.Core.Bool.{Bool}
use Prim.Native.Nat.{ℕ, ◌<◌}
use native.Mathlib.Omega.{arith}
use Rattle.rules.specs.Keep.{number_of, differ, top_of, bottom_of, kept}
use Rattle.rules.specs.declared.OverlayRule.{OverlayRule}
use Rattle.rules.specs.declared.OverlayRule.TheVariants.{Subject, Clip, Intersect, Union, Difference, InverseDifference, Xor}
use Rattle.rules.proofs.Exclude.{Excluded, answer}
use Rattle.rules.proofs.OverlayRule.keeps.Goals as goal

-- the answer t of rule r at the mask m, with no mask left that could have the other
decided : (r : OverlayRule) {t : Bool} {rule : OverlayRule} {m : ℕ} → rule ≡ r → (m < 16) × Excluded (λ k. differ (top_of (number_of r) k) (bottom_of (number_of r) k)) t m 16 → t ≡ kept (number_of rule) m
unfolding kept
decided r {t} {rule} {m} e h = answer (kept (number_of r)) t m 16 h.0 h.1 ∙ ap (λ (q : OverlayRule). kept (number_of q) m) (sym e)

pub returns-in-1-to-2 : goal.returns-in-1-to-2
returns-in-1-to-2 c = decided Subject c.in-Subject.is (omega arith)

pub returns-in-1-to-2-2 : goal.returns-in-1-to-2-2
returns-in-1-to-2-2 c = decided Subject c.in-Subject.is (omega arith)

pub returns-in-1-to-2-3 : goal.returns-in-1-to-2-3
returns-in-1-to-2-3 c = decided Subject c.in-Subject.is (omega arith)

pub returns-in-1-to-2-4 : goal.returns-in-1-to-2-4
returns-in-1-to-2-4 c = decided Subject c.in-Subject.is (omega arith)

pub returns-in_default : goal.returns-in_default
returns-in_default c = decided Subject c.in-Subject.is (omega arith)

pub returns-in_default-2 : goal.returns-in_default-2
returns-in_default-2 c = decided Subject c.in-Subject.is (omega arith)

pub returns-in_default-3 : goal.returns-in_default-3
returns-in_default-3 c = decided Subject c.in-Subject.is (omega arith)

pub returns-in_default-4 : goal.returns-in_default-4
returns-in_default-4 c = decided Subject c.in-Subject.is (omega arith)

pub returns-in_default-5 : goal.returns-in_default-5
returns-in_default-5 c = decided Subject c.in-Subject.is (omega arith)

pub returns-in-4-to-11 : goal.returns-in-4-to-11
returns-in-4-to-11 c = decided Clip c.in-Clip.is (omega arith)

pub returns-in_default-matches : goal.returns-in_default-matches
returns-in_default-matches c = decided Clip c.in-Clip.is (omega arith)

pub returns-in_default-matches-7 : goal.returns-in_default-matches-7
returns-in_default-matches-7 c = decided Clip c.in-Clip.is (omega arith)

pub returns-in_default-matches-2 : goal.returns-in_default-matches-2
returns-in_default-matches-2 c = decided Intersect c.in-Intersect.is (grind arith)

pub returns-in_default-matches-2-2 : goal.returns-in_default-matches-2-2
returns-in_default-matches-2-2 c = decided Intersect c.in-Intersect.is (omega arith)

pub returns-in_default-matches-2-3 : goal.returns-in_default-matches-2-3
returns-in_default-matches-2-3 c = decided Intersect c.in-Intersect.is (omega arith)

pub returns-in-5 : goal.returns-in-5
returns-in-5 c = decided Intersect c.in-Intersect.is (omega arith)

pub returns-in-5-2 : goal.returns-in-5-2
returns-in-5-2 c = decided Intersect c.in-Intersect.is (omega arith)

pub returns-in-5-3 : goal.returns-in-5-3
returns-in-5-3 c = decided Intersect c.in-Intersect.is (omega arith)

pub returns-in_default-matches-3 : goal.returns-in_default-matches-3
returns-in_default-matches-3 c = decided Union c.in-Union.is (omega arith)

pub returns-in_default-matches-3-2 : goal.returns-in_default-matches-3-2
returns-in_default-matches-3-2 c = decided Union c.in-Union.is (omega arith)

pub returns-in_default-matches-3-3 : goal.returns-in_default-matches-3-3
returns-in_default-matches-3-3 c = decided Union c.in-Union.is (grind arith)

pub returns-in-1-to-2-matches : goal.returns-in-1-to-2-matches
returns-in-1-to-2-matches c = decided Union c.in-Union.is (omega arith)

pub returns-in-1-to-2-matches-4 : goal.returns-in-1-to-2-matches-4
returns-in-1-to-2-matches-4 c = decided Union c.in-Union.is (omega arith)

pub returns-in-1-to-2-matches-5 : goal.returns-in-1-to-2-matches-5
returns-in-1-to-2-matches-5 c = decided Union c.in-Union.is (omega arith)

pub returns-in_default-matches-4 : goal.returns-in_default-matches-4
returns-in_default-matches-4 c = decided Difference c.in-Difference.is (omega arith)

pub returns-in_default-matches-4-2 : goal.returns-in_default-matches-4-2
returns-in_default-matches-4-2 c = decided Difference c.in-Difference.is (omega arith)

pub returns-in_default-matches-4-3 : goal.returns-in_default-matches-4-3
returns-in_default-matches-4-3 c = decided Difference c.in-Difference.is (grind arith)

pub returns-in-1-to-2-matches-2 : goal.returns-in-1-to-2-matches-2
returns-in-1-to-2-matches-2 c = decided Difference c.in-Difference.is (omega arith)

pub returns-in-1-to-2-matches-2-2 : goal.returns-in-1-to-2-matches-2-2
returns-in-1-to-2-matches-2-2 c = decided Difference c.in-Difference.is (omega arith)

pub returns-in-1-to-2-matches-2-3 : goal.returns-in-1-to-2-matches-2-3
returns-in-1-to-2-matches-2-3 c = decided Difference c.in-Difference.is (omega arith)

pub returns-in_default-matches-5 : goal.returns-in_default-matches-5
returns-in_default-matches-5 c = decided InverseDifference c.in-InverseDifference.is (grind arith)

pub returns-in_default-matches-5-2 : goal.returns-in_default-matches-5-2
returns-in_default-matches-5-2 c = decided InverseDifference c.in-InverseDifference.is (omega arith)

pub returns-in_default-matches-5-3 : goal.returns-in_default-matches-5-3
returns-in_default-matches-5-3 c = decided InverseDifference c.in-InverseDifference.is (omega arith)

pub returns-in-4 : goal.returns-in-4
returns-in-4 c = decided InverseDifference c.in-InverseDifference.is (omega arith)

pub returns-in-4-2 : goal.returns-in-4-2
returns-in-4-2 c = decided InverseDifference c.in-InverseDifference.is (omega arith)

pub returns-in-4-3 : goal.returns-in-4-3
returns-in-4-3 c = decided InverseDifference c.in-InverseDifference.is (omega arith)

pub returns-in_default-matches-6 : goal.returns-in_default-matches-6
returns-in_default-matches-6 c = decided Xor c.in-Xor.is (omega arith)

pub returns-in_default-matches-6-2 : goal.returns-in_default-matches-6-2
returns-in_default-matches-6-2 c = decided Xor c.in-Xor.is (grind arith)

pub returns-in_default-matches-6-3 : goal.returns-in_default-matches-6-3
returns-in_default-matches-6-3 c = decided Xor c.in-Xor.is (grind arith)

pub returns-in_default-matches-6-4 : goal.returns-in_default-matches-6-4
returns-in_default-matches-6-4 c = decided Xor c.in-Xor.is (omega arith)

pub returns-in-1-to-2-matches-3 : goal.returns-in-1-to-2-matches-3
returns-in-1-to-2-matches-3 c = decided Xor c.in-Xor.is (omega arith)

pub returns-in-1-to-2-matches-3-2 : goal.returns-in-1-to-2-matches-3-2
returns-in-1-to-2-matches-3-2 c = decided Xor c.in-Xor.is (omega arith)

pub returns-in-1-to-2-matches-3-3 : goal.returns-in-1-to-2-matches-3-3
returns-in-1-to-2-matches-3-3 c = decided Xor c.in-Xor.is (omega arith)

pub returns-in-1-to-2-matches-3-4 : goal.returns-in-1-to-2-matches-3-4
returns-in-1-to-2-matches-3-4 c = decided Xor c.in-Xor.is (omega arith)
