-- `pairs` meets its contract: the marks still to come make up those of the look. The outer loop's are those of the targets from i on; the inner
-- loop's, of target i with the others from j on. The label's two ways out are one record, `Left`.
use mathlib.Core.List.{◌++◌}
use mathlib.Core.Logic.{inl, inr}
use Prim.Native.Nat.{◌+◌, ◌-◌, ◌*◌, ◌≤◌}
use native.Mathlib.Nat.{sub-zero}
use native.Mathlib.Omega.{arith}
use borrow.Author.Rules.{rules}
use lib.ListN.{length}
use Rattle.whole.specs.AppendLaws.{coming-all, coming-none, coming-under}
use Rattle.whole.proofs.AppendLaws.{coming-step}
use Rattle.whole.specs.Kind.{rows_from}
use Rattle.geom.specs.Rows.{segments}
use Rattle.split.specs.Look.{look}
use Rattle.faults.proofs.Some.{each_on_grid}
use Rattle.pairwise.proofs.Looking.{with_others, from_target, others_done, target-step, targets_done, pair_step, Left, room_fits, answer-full, answer-marks}
use Rattle.pairwise.proofs.pairs.Goals as goal
use Rattle.pairwise.proofs.pairs.Goals.{Left-pairs, else-pairs-test, then-pairs-test+then-loop-j-test+then-room-count}

pub pairs-init : goal.pairs-init
pairs-init c = (omega arith, omega arith, rw (sub-zero c.args.n) coming-all)

pub loop-j-init : goal.loop-j-init
loop-j-init c = (omega arith, omega arith, omega arith, omega arith, coming-all)

pub invariant_of-couple : goal.invariant_of-couple
invariant_of-couple c =
    let g = each_on_grid c.args.work.now c.args.n c.requires.n_value in
    record { i_bound = omega arith; j_bound = omega arith; grid_target = rw c.read-target.ensures (g c.pairs.i (omega arith)); grid_other = rw c.read-other.ensures (g c.loop-j.j (omega arith)) }

pub pair-count-requires : goal.pair-count-requires
pair-count-requires c =
    let f : 3 * c.mark_room-room.result ≤ length c.args.marks.now = rw c.mark_room-room.ensures (room_fits (length c.args.marks.now)) in
    record { room_in_bounds = omega (arith, f); count_le_room = omega arith }

pub loop-j-preserved : goal.loop-j-preserved
loop-j-preserved c =
    let a = c.args in
    (omega arith, omega arith, omega arith, omega arith, pair_step a.radius a.work.now a.n c.pairs.i c.loop-j.j (omega arith) c.read-target.ensures c.read-other.ensures c.loop-j.invariant.4 c.pair-count.ensures)

pub pairs-preserved : goal.pairs-preserved
pairs-preserved c =
    let a = c.args in (
      omega arith,
      omega arith,
      coming-step c.pairs.invariant.2 (target-step a.radius a.work.now a.n c.pairs.i (omega arith))
          (coming-none c.loop-j.invariant.4 (others_done a.radius a.work.now a.n c.pairs.i c.loop-j.j (omega arith))),
    )

left : (c : Left-pairs)
    → let a = c.args in
    Left c.mark_room-room.result a.marks.now (look a.radius (rows_from segments a.work.now 0 a.n)) c.pairs-test.marks c.pairs-test.count
left c =
    let a = c.args in
    let q = a.radius in
    let v = a.work.now in
    let n = a.n in
    let i = c.pairs.i in
    elim c.pairs-test.branch [
      | else-pairs-test w ↦
          rw (w.marks-is, w.count-is)
          (record { rest = from_target q v i (n - i); coming = c.pairs.invariant.2; why = inl (targets_done q v n i (omega arith)) })
      | then-pairs-test+then-loop-j-test+then-room-count w ↦
          let j = w.loop-j.j in
          rw (w.marks-is, w.count-is)
          (record {
            rest = with_others q v i (j + 1) (n - (j + 1)) ++ from_target q v (i + 1) (n - (i + 1));
            coming =
                coming-under c.pairs.invariant.2 (from_target q v (i + 1) (n - (i + 1))) (target-step q v n i (omega arith))
                (pair_step q v n i j (omega arith) w.read-target.ensures w.read-other.ensures w.loop-j.invariant.4 w.pair-count.ensures);
            why = inr w.if-room-count.true;
          })
    ]

pub returns-then-room-count-2 : goal.returns-then-room-count-2
returns-then-room-count-2 c =
    let p = answer-full (left (goal.at.returns-then-room-count-2 c).Left-pairs) c.if-room-count-2.true c.mark_room-room.ensures (search rules) in
    record { value = p.0; marks_after = p.1 }

pub returns : goal.returns
returns c =
    let p = answer-marks (left (goal.at.returns c).Left-pairs) c.if-room-count-2.false c.mark_room-room.ensures in
    record { value = p.0; marks_after = p.1 }
