-- `chains::column_end` meets its contract. The loop's invariant: with the marks from e on that join the one before them, the column is whole.
use mathlib.Core.Path.{◌≡◌}
use Prim.Native.Nat.{◌+◌, ◌-◌, ◌≤◌, ◌<◌}
use Rattle.chains.specs.Steps.{point_at, points, joined}
use Rattle.chains.proofs.column_end.Given as goal

abbrev pub invariant-loop-e : goal.invariant-loop-e
invariant-loop-e l =
    (l.g < l.e) × (l.e ≤ l.size) × (l.e + joined l.p (points l.run l.e (l.size - l.e)) ≡ l.g + 1 + joined (point_at l.run l.g) (points l.run (l.g + 1) (l.size - (l.g + 1))))

abbrev pub decreases-loop-e : goal.decreases-loop-e
decreases-loop-e l = l.size - l.e
