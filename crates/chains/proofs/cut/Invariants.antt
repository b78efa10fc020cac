-- `chains::cut` meets its contract. The loop's invariant: the columns that are left give, from the point before them and the next row on, the same list.
-- A turn of the loop is one column, in the order that its neighbours decide; its marks are read in a part of the run.
use mathlib.Core.Path.{◌≡◌}
use Prim.Native.Nat.{◌+◌, ◌-◌, ◌≤◌}
use lib.ListN.{length}
use Rattle.split.specs.Chain.{columns, chain_from, chain, pieces_from}
use Rattle.chains.specs.Steps.{points}
use Rattle.chains.proofs.Pieces.{rows_at}
use Rattle.chains.proofs.cut.Given as goal

abbrev pub invariant-loop-g : goal.invariant-loop-g
invariant-loop-g l =
    (l.g ≤ l.size)
    × (length l.work ≡ length l.initial.work)
    × (rows_at l.work (l.at + l.g) (pieces_from l.v l.p (chain_from l.p l.v.b (columns (points l.run l.g (l.size - l.g))))) ≡ rows_at l.initial.work l.at (pieces_from l.v l.v.a (chain l.v (points l.run 0 l.size))))

abbrev pub decreases-loop-g : goal.decreases-loop-g
decreases-loop-g l = l.size - l.g
