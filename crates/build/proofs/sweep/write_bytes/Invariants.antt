-- `write_bytes`: byte after byte; those from k on are still to come.
use Rattle.masks.specs.Rules.{fill_number, overlay_number}
use mathlib.Core.Path.{◌≡◌}
use Prim.Native.Nat.{◌-◌, ◌≤◌}
use lib.ListN.{length}
use lib.Seq.{sets}
use Rattle.whole.specs.Kind.{rows_from}
use Rattle.geom.specs.Rows.{segments}
use Rattle.scan.specs.Scan.{entries}
use Rattle.build.specs.Sweep.{bytes_by}
use Rattle.build.proofs.sweep.write_bytes.Given as goal

abbrev pub invariant-loop-k : goal.invariant-loop-k
invariant-loop-k l =
    (l.i ≤ l.k) × (l.k ≤ l.e) × (length l.masks ≡ length l.initial.masks)
    × (sets l.masks l.k (bytes_by (fill_number l.rules) (overlay_number l.rules) l.work (rows_from entries l.scan 0 l.node.used) (rows_from segments l.work l.k (l.e - l.k))) ≡ sets l.initial.masks l.i (bytes_by (fill_number l.rules) (overlay_number l.rules) l.work (rows_from entries l.scan 0 l.node.used) (rows_from segments l.work l.i (l.e - l.i))))

abbrev pub decreases-loop-k : goal.decreases-loop-k
decreases-loop-k l = l.e - l.k
