-- `pairs` meets its contract: the marks still to come make up those of the look. The outer loop's are those of the targets from i on; the inner
-- loop's, of target i with the others from j on.
use Prim.Native.Nat.{◌+◌, ◌-◌, ◌≤◌, ◌<◌}
use Rattle.whole.specs.AppendLaws.{Coming}
use Rattle.whole.specs.Kind.{rows_from}
use Rattle.geom.specs.Rows.{segments}
use Rattle.split.specs.Marks.{marks as mark_rows}
use Rattle.split.specs.Look.{look}
use Rattle.pairwise.proofs.Looking.{with_others, from_target}
use Rattle.pairwise.proofs.pairs.Given as goal

abbrev pub invariant-loop-j : goal.invariant-loop-j
invariant-loop-j l = (l.i < l.n) × (l.i + 1 ≤ l.j) × (l.j ≤ l.n) × (l.count ≤ l.room) × Coming mark_rows l.room l.initial.marks l.initial.count (with_others l.radius l.work l.i (l.i + 1) (l.n - (l.i + 1))) l.marks l.count (with_others l.radius l.work l.i l.j (l.n - l.j))

abbrev pub decreases-loop-j : goal.decreases-loop-j
decreases-loop-j l = l.n - l.j

abbrev pub invariant-pairs : goal.invariant-pairs
invariant-pairs l = (l.i ≤ l.n) × (l.count ≤ l.room) × Coming mark_rows l.room l.initial.marks 0 (look l.radius (rows_from segments l.work 0 l.n)) l.marks l.count (from_target l.radius l.work l.i (l.n - l.i))

abbrev pub decreases-pairs : goal.decreases-pairs
decreases-pairs l = l.n - l.i
