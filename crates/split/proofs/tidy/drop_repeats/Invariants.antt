-- `drop_repeats` meets its contract: the pass that gives each mark which differs from the one before, made in place. A repeat is equal to the mark before it,
-- so that one goes on standing for it.
use Prim.Native.Nat.{◌≤◌, ◌-◌}
use Rattle.whole.specs.Distinct.{distinct, differing}
use Rattle.whole.specs.Kind.{rows_from}
use Rattle.whole.specs.PassLaws.{Going}
use Rattle.split.specs.Marks.{marks as rows}
use Rattle.split.specs.Look.{same_mark}
use Rattle.split.proofs.tidy.drop_repeats.Given as goal

abbrev pub invariant-loop-i : goal.invariant-loop-i
invariant-loop-i l = (1 ≤ l.kept) × (l.kept ≤ l.i) × (l.i ≤ l.count) × Going rows (differing same_mark) l.initial.marks l.count (distinct same_mark (rows_from rows l.initial.marks 0 l.count)) l.marks l.kept l.i l.last

abbrev pub decreases-loop-i : goal.decreases-loop-i
decreases-loop-i l = l.count - l.i
