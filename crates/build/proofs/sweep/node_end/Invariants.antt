-- `node_end`: the segments met so far start where the first does.
use mathlib.Core.Path.{◌≡◌}
use Prim.Native.Nat.{ℕ, ◌-◌, ◌≤◌, ◌<◌}
use Rattle.scan.specs.Scan.{segment_at}
use Rattle.build.proofs.sweep.node_end.Given as goal

abbrev pub invariant-loop-j : goal.invariant-loop-j
invariant-loop-j l = (l.i < l.j) × (l.j ≤ l.n) × ((k : ℕ) → l.i ≤ k → k < l.j → (segment_at l.work l.i).a ≡ (segment_at l.work k).a)

abbrev pub decreases-loop-j : goal.decreases-loop-j
decreases-loop-j l = l.n - l.j
