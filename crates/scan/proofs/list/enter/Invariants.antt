-- `enter`: entry after entry is added where its segment is live (Coming).
use Prim.Native.Nat.{◌+◌, ◌-◌, ◌≤◌}
use Rattle.whole.specs.AppendLaws.{Coming}
use Rattle.whole.specs.Sum.{keep}
use Rattle.scan.specs.Scan.{entries, entries_from, live_at}
use Rattle.scan.proofs.list.enter.Given as goal

abbrev pub invariant-loop-k : goal.invariant-loop-k
invariant-loop-k l =
    (l.i ≤ l.k) × (l.k ≤ l.e) × (l.count ≤ l.used + (l.k - l.i))
    × Coming entries l.room l.initial.scan l.used (keep (live_at l.work l.p) (entries_from l.work l.i (l.e - l.i))) l.scan l.count (keep (live_at l.work l.p) (entries_from l.work l.k (l.e - l.k)))

abbrev pub decreases-loop-k : goal.decreases-loop-k
decreases-loop-k l = l.e - l.k
