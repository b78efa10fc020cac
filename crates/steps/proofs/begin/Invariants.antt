-- Each row is turned and written in its place; the rows still to come are those of the input from row i on.
use mathlib.Core.Path.{◌≡◌}
use Prim.Native.Nat.{◌≤◌, ◌-◌}
use lib.ListN.{length}
use Rattle.steps.proofs.Turning.{to_come}
use Rattle.steps.proofs.begin.Given as goal

abbrev pub invariant-loop-i : goal.invariant-loop-i
invariant-loop-i l = (l.i ≤ l.n) × (length l.work ≡ length l.initial.work) × (to_come l.input l.n l.i l.work ≡ to_come l.input l.n 0 l.initial.work)

abbrev pub decreases-loop-i : goal.decreases-loop-i
decreases-loop-i l = l.n - l.i
