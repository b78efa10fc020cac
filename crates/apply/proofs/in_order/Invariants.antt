-- `apply::in_order` meets its contract. The loop's invariant: the marks from i on answer for all.
use mathlib.Core.Path.{◌≡◌}
use Prim.Native.Nat.{◌-◌, ◌≤◌}
use Rattle.whole.specs.Kind.{rows_from}
use Rattle.split.specs.Marks.{marks as mark_rows}
use Rattle.apply.specs.Answer.{in_order}
use Rattle.apply.proofs.in_order.Given as goal

abbrev pub invariant-loop-i : goal.invariant-loop-i
invariant-loop-i l = (l.i ≤ l.count) × (in_order l.n (rows_from mark_rows l.marks l.i (l.count - l.i)) ≡ in_order l.n (rows_from mark_rows l.marks 0 l.count))

abbrev pub decreases-loop-i : goal.decreases-loop-i
decreases-loop-i l = l.count - l.i
