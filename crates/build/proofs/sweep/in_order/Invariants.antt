-- `in_order`: the pairs before i are in order, so the list from the last of them on decides.
use mathlib.Core.Path.{◌≡◌}
use Prim.Native.Nat.{◌-◌, ◌≤◌}
use Rattle.whole.specs.Kind.{rows_from}
use Rattle.geom.specs.Rows.{segments}
use Rattle.build.specs.Sweep.{ordered}
use Rattle.build.proofs.sweep.in_order.Given as goal

abbrev pub invariant-loop-i : goal.invariant-loop-i
invariant-loop-i l = (1 ≤ l.i) × (ordered (rows_from segments l.work (l.i - 1) (l.n - (l.i - 1))) ≡ ordered (rows_from segments l.work 0 l.n))

abbrev pub decreases-loop-i : goal.decreases-loop-i
decreases-loop-i l = l.n - l.i
