-- `chains::walk` meets its contract. The loop's invariant: the points that are left give, from the last one and the next row on, the same end and the same list.
use mathlib.Core.Path.{◌≡◌}
use Prim.Native.Nat.{◌+◌, ◌-◌, ◌≤◌}
use lib.ListN.{length}
use Rattle.split.specs.Chain.{last_of}
use Rattle.chains.specs.Steps.{pieces_to, taken}
use Rattle.chains.proofs.Pieces.{rows_at}
use Rattle.chains.proofs.walk.Given as goal

abbrev pub invariant-loop-i : goal.invariant-loop-i
invariant-loop-i l =
    (l.i ≤ l.size)
    × (length l.work ≡ length l.initial.work)
    × (last_of l.last (taken l.back l.column l.size (l.size - l.i)) ≡ last_of l.initial.last (taken l.back l.column l.size l.size))
    × (rows_at l.work (l.at + l.i) (pieces_to l.v l.last (taken l.back l.column l.size (l.size - l.i))) ≡ rows_at l.initial.work l.at (pieces_to l.v l.initial.last (taken l.back l.column l.size l.size)))
