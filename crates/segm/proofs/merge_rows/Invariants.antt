-- `segm::merge_rows` meets its contract. The loop's invariant is `Run`: w rows are written, and the group g is open; each need cites the law of its event.
use Prim.Native.Nat.{◌-◌}
use Rattle.segm.proofs.Run.{Run}
use Rattle.segm.proofs.merge_rows.Given as goal

abbrev pub invariant-loop-i : goal.invariant-loop-i
invariant-loop-i l = Run l.initial.work l.n l.work l.w l.i l.g

abbrev pub decreases-loop-i : goal.decreases-loop-i
decreases-loop-i l = l.n - l.i
