-- `apply::cut_all` meets its contract. The loop's invariant: the marks from e on are those of the segments from i on, whose pieces stand from row i + e on;
-- the rows before are as they were.
use mathlib.Core.Path.{◌≡◌}
use Prim.Native.Nat.{◌+◌, ◌≤◌}
use lib.ListN.{length}
use Rattle.whole.specs.Kind.{rows_from}
use Rattle.split.specs.Marks.{marks as mark_rows}
use Rattle.chains.proofs.Pieces.{rows_at}
use Rattle.apply.proofs.Runs.{Edge}
use Rattle.apply.proofs.Back.{pieces_on}
use Rattle.apply.proofs.cut_all.Given as goal

abbrev pub invariant-loop-i : goal.invariant-loop-i
invariant-loop-i l =
    (l.i ≤ l.n)
    × (l.e ≤ l.count)
    × (length l.work ≡ length l.initial.work)
    × Edge l.marks l.count l.i l.e
    × (l.work ≡ rows_at l.initial.work (l.i + l.e) (pieces_on (rows_from mark_rows l.marks 0 l.count) l.initial.work l.n l.i))

abbrev pub decreases-loop-i : goal.decreases-loop-i
decreases-loop-i l = l.i
