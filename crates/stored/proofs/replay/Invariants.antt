-- No more cases are equal than were run.
use Rattle.std.proofs.Common.{◌≤◌}
use Rattle.stored.proofs.replay.Given as goal

abbrev pub invariant-loop-i : goal.invariant-loop-i
invariant-loop-i l = l.equal ≤ l.i
