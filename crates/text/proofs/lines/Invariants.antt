-- The lines still to come, put from the next place on, make up what is promised. A line has at most 153 bytes.
use Prim.Native.Nat.{◌+◌, ◌*◌, ◌-◌, ◌≤◌}
use lib.ListN.{length}
use Rattle.text.specs.PutLaws.{Coming}
use Rattle.text.specs.Text.{lines_from}
use Rattle.text.proofs.lines.Given as goal

abbrev pub invariant-loop-i : goal.invariant-loop-i
invariant-loop-i l =
    (l.i ≤ length l.bytes) × (l.next ≤ 42 + 153 * l.i) × Coming l.initial.out l.at (lines_from l.rows l.bytes 0 (length l.bytes)) l.out l.next (lines_from l.rows l.bytes l.i (length l.bytes - l.i))
