-- `sweep`: node after node, each of which leaves in the scan list what is live of the whole list (Sweeping).
use Rattle.masks.specs.Rules.{fill_number, overlay_number}
use mathlib.Core.Path.{subst, ◌∙◌}
use Prim.Native.Nat.{◌*◌, ◌≤◌}
use native.Mathlib.Omega.{arith}
use lib.ListN.{length}
use Rattle.whole.specs.Kind.{rows_from}
use Rattle.geom.specs.declared.Segment.{Segment}
use Rattle.scan.specs.Scan.{entries, segment_at, stays, arrivals, Known, Holds}
use Rattle.build.specs.Sweep.{Ready}
use Rattle.build.proofs.Node.{node_ready}
use Rattle.build.proofs.Sweeping.{sweeping_start, sweeping_step, swept-crowded, swept, entries_now}
use Rattle.build.proofs.sweep.sweep.Goals as goal
use Rattle.build.proofs.sweep.sweep.Goals.{After-arrive-node, At-loop-i}

-- room for so many entries, in the list as it is
roomy : (c : At-loop-i) → let r = c.scan_room-room.result in (3 * r ≤ length c.loop-i.scan) × (r ≤ 2048)
roomy c =
    let e = c.scan_room-room.ensures in
    let k = c.loop-i.invariant.scan_kept in
    (omega arith, omega arith)

-- what the node leaves, by the point where its first segment starts
arrived : (c : After-arrive-node) → let a = c.args in Holds c.scan_room-room.result c.loop-i.scan (arrivals a.work.now a.n c.in_order-sorted.result (rows_from entries c.loop-i.scan 0 c.loop-i.used) c.loop-i.i c.node_end-e.result (segment_at a.work.now c.loop-i.i).a) c.arrive-node.result.used c.arrive-node.new.scan
arrived c =
    let a = c.args in
    subst (λ (u : Segment). Holds c.scan_room-room.result c.loop-i.scan (arrivals a.work.now a.n c.in_order-sorted.result (rows_from entries c.loop-i.scan 0 c.loop-i.used) c.loop-i.i c.node_end-e.result u.a) c.arrive-node.result.used c.arrive-node.new.scan) c.read-v.ensures c.arrive-node.ensures.holds

-- and what it knows of each segment that starts there
ready : (c : After-arrive-node) → c.arrive-node.result.used ≤ c.scan_room-room.result → Ready c.args.work.now c.arrive-node.new.scan c.arrive-node.result c.loop-i.i c.node_end-e.result
ready c h =
    let a = c.args in
    let w = a.work.now in
    let L = rows_from entries c.loop-i.scan 0 c.loop-i.used in
    let k = subst (λ (u : Segment). Known w u.a (stays w c.in_order-sorted.result L u.a) c.arrive-node.result.known c.arrive-node.result.sums) c.read-v.ensures c.arrive-node.ensures.known in
    node_ready w a.n L c.in_order-sorted.result c.node_end-e.ensures (arrived c) k h

pub loop-i-init : goal.loop-i-init
loop-i-init c =
    let a = c.args in
    sweeping_start (fill_number a.rules) (overlay_number a.rules) c.scan_room-room.result a.work.now a.n c.in_order-sorted.result a.scan.now a.masks.now

pub node_end-e-requires : goal.node_end-e-requires
node_end-e-requires c = record { n_in_bounds = omega arith; i_lt_n = omega arith }

pub arrive-node-requires : goal.arrive-node-requires
arrive-node-requires c =
    let p = c.requires in
    let g = c.loop-i.invariant in
    let d = c.node_end-e.ensures in
    record { n_in_bounds = (p.n_in_bounds.0, (roomy (goal.at.arrive-node-requires c).At-loop-i).0); on_grids = p.on_grids; grid_point = rw c.read-v.ensures (p.on_grids.each c.loop-i.i (omega arith)).a; used_le_room = (g.fits, (roomy (goal.at.arrive-node-requires c).At-loop-i).1); i_le_e = (omega (arith, d.after), d.within, p.n_in_bounds.1); all = g.entry }

pub shape_of-scan-then-room-used : goal.shape_of-scan-then-room-used
shape_of-scan-then-room-used c =
    (arrived (goal.at.shape_of-scan-then-room-used c).After-arrive-node).same_length ∙ c.loop-i.invariant.scan_kept

pub shape_of-masks-then-room-used : goal.shape_of-masks-then-room-used
shape_of-masks-then-room-used c = c.loop-i.invariant.masks_kept

pub returns-then-room-used : goal.returns-then-room-used
returns-then-room-used c =
    let r = c.scan_room-room in
    let a = c.args in
    rw (← r.ensures)
    (swept-crowded (fill_number a.rules) (overlay_number a.rules) r.result a.work.now a.n c.in_order-sorted.result c.loop-i.invariant c.in_order-sorted.ensures c.node_end-e.ensures (arrived (goal.at.returns-then-room-used c).After-arrive-node) c.if-room-used.true)

pub write_bytes-requires : goal.write_bytes-requires
write_bytes-requires c =
    let a = c.args in
    let g = c.loop-i.invariant in
    let d = c.node_end-e.ensures in
    let h : c.arrive-node.result.used ≤ c.scan_room-room.result = c.if-room-used.false in
    let now = entries_now (fill_number a.rules) (overlay_number a.rules) c.scan_room-room.result a.work.now a.n c.in_order-sorted.result g c.in_order-sorted.ensures d (arrived (goal.at.write_bytes-requires c).After-arrive-node) h in
    record { n_in_bounds = c.requires.n_in_bounds.0; on_grids = c.requires.on_grids; used_in_bounds = (omega (arith, h, (roomy (goal.at.write_bytes-requires c).At-loop-i).0, (arrived (goal.at.write_bytes-requires c).After-arrive-node).same_length), omega (arith, h, (roomy (goal.at.write_bytes-requires c).At-loop-i).1)); all = now; ready = ready (goal.at.write_bytes-requires c).After-arrive-node h; i_le_e = (omega (arith, d.after), d.within, omega (arith, g.masks_kept, c.requires.n_in_bounds.2)) }

pub loop-i-smaller : goal.loop-i-smaller
loop-i-smaller c =
    omega (arith, c.node_end-e.ensures.after, c.node_end-e.ensures.within)

pub loop-i-preserved : goal.loop-i-preserved
loop-i-preserved c =
    let a = c.args in
    sweeping_step (fill_number a.rules) (overlay_number a.rules) c.scan_room-room.result a.work.now a.n c.in_order-sorted.result c.loop-i.invariant c.in_order-sorted.ensures c.node_end-e.ensures (arrived (goal.at.loop-i-preserved c).After-arrive-node) c.if-room-used.false c.write_bytes.ensures

pub shape_of-scan : goal.shape_of-scan
shape_of-scan c = c.loop-i.invariant.scan_kept

pub shape_of-masks : goal.shape_of-masks
shape_of-masks c = c.loop-i.invariant.masks_kept

pub returns : goal.returns
returns c =
    let r = c.scan_room-room in
    let a = c.args in
    rw (← r.ensures)
    (swept (fill_number a.rules) (overlay_number a.rules) r.result a.work.now a.n c.in_order-sorted.result c.loop-i.invariant (omega arith))
