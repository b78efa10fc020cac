-- What answer 0 says of the outcome of a run: the checks 1 to 6 passed, the looks settled, and the work and mask lists begin with the edges and their bytes.
use Rattle.std.specs.Prelude.{◌≡◌, List, ℤ}
use Prim.Native.Nat.{ℕ, suc, ◌≤◌}
use Rattle.std.proofs.Math.ListN.{length, take}
use Rattle.whole.specs.Kind.{rows_from}
use Rattle.geom.specs.declared.Segment.{Segment}
use Rattle.geom.specs.Limits.{work_room}
use Rattle.geom.specs.Rows.{segments}
use Rattle.scan.specs.Masks.{bytes}
use Rattle.checks.specs.declared.Settings.{Settings}
use Rattle.checks.specs.Accepted.{Accepted}
use Rattle.overlay.specs.Outcome.{Lent, Outcome}
use Rattle.demands.specs.Chain.{Chain}

-- the segments of the input
abbrev pub given : List ℤ → Settings → List Segment
given input s = rows_from segments input 0 s.n

-- the first m segments of the work list
abbrev pub edges : Outcome → ℕ → List Segment
edges o m = rows_from segments o.lists.work 0 m

pub record Answered (input : List ℤ) (s : Settings) (l : Lent) (o : Outcome) (m looks : ℕ) : Type 0 where
  pub accepted : Accepted input s (length l.work) (length l.masks)
  pub chain : Chain (given input s) (edges o m) looks
  pub room : m ≤ work_room (length l.work)
  pub bytes : take m o.lists.masks ≡ bytes s.fill s.rule (edges o m)
