-- `apply::run_start` meets its contract. The loop's invariant: the marks before number a have the same start of the run.
use mathlib.Core.Path.{◌≡◌}
use Prim.Native.Nat.{◌≤◌}
use Rattle.apply.specs.Start.{start_of}
use Rattle.apply.proofs.run_start.Given as goal

abbrev pub invariant-loop-a : goal.invariant-loop-a
invariant-loop-a l = (l.a ≤ l.e) × (start_of l.i l.marks l.a ≡ start_of l.i l.marks l.e)

abbrev pub decreases-loop-a : goal.decreases-loop-a
decreases-loop-a l = l.a
