-- `sums_below`: the loop adds up entry after entry (Adding); an entry's counts are those of its segment, so they are of 32 bits.
use Prim.Native.Nat.{◌≤◌, ◌-◌}
use Rattle.whole.specs.Kind.{rows_from}
use Rattle.edges.specs.Below.{below}
use Rattle.scan.specs.Scan.{entries, named}
use Rattle.scan.proofs.Adding.{Adding}
use Rattle.scan.proofs.sums.sums_below.Given as goal

abbrev pub invariant-loop-k : goal.invariant-loop-k
invariant-loop-k l =
    (l.k ≤ l.used) × Adding (λ t. below (named l.work t) l.e) (rows_from entries l.scan 0 l.used) l.sum (rows_from entries l.scan l.k (l.used - l.k)) l.k

abbrev pub decreases-loop-k : goal.decreases-loop-k
decreases-loop-k l = l.used - l.k
