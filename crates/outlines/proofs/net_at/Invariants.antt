-- `outlines::net_at` meets its contract: the loop keeps `Tally`, and each need is the law of its event.
use Prim.Native.Nat.{◌-◌}
use Rattle.outlines.proofs.Tally.{Tally}
use Rattle.outlines.proofs.net_at.Given as goal

abbrev pub invariant-loop-j : goal.invariant-loop-j
invariant-loop-j l = Tally l.p l.rows l.n l.j l.net

abbrev pub decreases-loop-j : goal.decreases-loop-j
decreases-loop-j l = l.n - l.j
