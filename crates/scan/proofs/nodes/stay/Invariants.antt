-- `stay` is the pass that keeps what is live, made in place, and adds it up (Walking).
use Prim.Native.Nat.{◌-◌}
use Rattle.scan.proofs.Walking.{Walking}
use Rattle.scan.proofs.nodes.stay.Given as goal

abbrev pub invariant-loop-k : goal.invariant-loop-k
invariant-loop-k l = Walking l.work l.p l.initial.scan l.used l.scan l.left l.b l.k

abbrev pub decreases-loop-k : goal.decreases-loop-k
decreases-loop-k l = l.used - l.k
