-- `sweep`: node after node, each of which leaves in the scan list what is live of the whole list (Sweeping).
use Rattle.masks.specs.Rules.{fill_number, overlay_number}
use Prim.Native.Nat.{◌-◌}
use Rattle.build.proofs.Sweeping.{Sweeping}
use Rattle.build.proofs.sweep.sweep.Given as goal

abbrev pub invariant-loop-i : goal.invariant-loop-i
invariant-loop-i l = Sweeping (fill_number l.rules) (overlay_number l.rules) l.room l.work l.n l.sorted l.initial.scan l.initial.masks l.scan l.masks l.used l.i

abbrev pub decreases-loop-i : goal.decreases-loop-i
decreases-loop-i l = l.n - l.i
