-- `write_bytes`: byte after byte; those from k on are still to come.
use Rattle.masks.specs.Rules.{fill_number, overlay_number}
use mathlib.Core.Path.{◌≡◌, refl, sym, ap, ◌∙◌}
use mathlib.Core.List.{List}
use native.Mathlib.Numerals.{add-one}
use native.Mathlib.Omega.{arith}
use lib.ListN.{length-set}
use lib.Seq.{sets}
use mir.Syntax.{w32, w64}
use mir.Val.{SFits}
use borrow.Author.Rules.{rules, sfits_of}
use Rattle.whole.specs.Fit.{sum_fits}
use Rattle.whole.specs.Kind.{rows_from}
use Rattle.whole.proofs.KindLaws.{rows_step, rows-done}
use Rattle.geom.specs.declared.Segment.{Segment}
use Rattle.geom.specs.Rows.{segments}
use Rattle.scan.specs.declared.sums.Sums.{Sums}
use Rattle.scan.specs.Scan.{entries, segment_at, sums_of, byte_by}
use Rattle.build.specs.Sweep.{bytes_by}
use Rattle.scan.proofs.Adding.{near_32}
use Rattle.build.proofs.sweep.write_bytes.Goals as goal
use Rattle.build.proofs.sweep.write_bytes.Goals.{After-read-v}

in-subject : (c : After-read-v) → SFits w32 c.read-v.result.subject.0
in-subject c = search rules

in-clip : (c : After-read-v) → SFits w32 c.read-v.result.clip.0
in-clip c = sfits_of {w = w32} c.read-v.type_inv.1.1.1.1.1.0.1.1.0.1

pub loop-k-init : goal.loop-k-init
loop-k-init c = (omega arith, omega arith, refl, refl)

pub sums_below-s-requires : goal.sums_below-s-requires
sums_below-s-requires c =
    let p = c.requires in
    let r = p.ready in
    record { n_in_bounds = p.n_in_bounds; on_grids = p.on_grids; grid_segment = rw c.read-v.ensures (p.on_grids.each c.loop-k.k (omega arith)); used_in_bounds = (p.used_in_bounds.0, p.used_in_bounds.1, r.within); all = p.all; reached = rw c.read-v.ensures (r.each c.loop-k.k (omega arith) (omega arith)) }

pub byte-requires : goal.byte-requires
byte-requires c =
    let near = c.sums_below-s.ensures.near in
    let s = c.sums_below-s.result in
    let v = c.read-v.result in
    record { sfits = sum_fits w64 s.subject v.subject.0 (omega (arith, near.0, near_32 (in-subject (goal.at.byte-requires c).After-read-v))); sfits_2 = sum_fits w64 s.clip v.clip.0 (omega (arith, near.1, near_32 (in-clip (goal.at.byte-requires c).After-read-v))) }

pub bounds-masks-k : goal.bounds-masks-k
bounds-masks-k c =
    let p = c.requires.i_le_e in
    omega (arith, c.loop-k.invariant.2)

pub loop-k-preserved : goal.loop-k-preserved
loop-k-preserved c =
    let a = c.args in
    let w = a.work.now in
    let L = rows_from entries a.scan.now 0 a.node.used in
    let k = c.loop-k.k in
    let v = segment_at w k in
    let s : c.sums_below-s.result ≡ sums_of w v L = c.sums_below-s.ensures.sums ∙ ap (λ (u : Segment). sums_of w u L) c.read-v.ensures in
    let m : c.byte.result ≡ byte_by (fill_number a.rules) (overlay_number a.rules) (sums_of w v L) v =
    c.byte.ensures ∙ ap (λ (u : Segment). byte_by (fill_number a.rules) (overlay_number a.rules) c.sums_below-s.result u) c.read-v.ensures ∙ ap (λ (u : Sums). byte_by (fill_number a.rules) (overlay_number a.rules) u v) s in
    let next = ap (λ (K : List Segment). sets c.loop-k.masks k (bytes_by (fill_number a.rules) (overlay_number a.rules) w L K)) (rows_step segments w a.e k (omega arith)) in
    (omega arith, omega arith, length-set c.loop-k.masks k c.byte.result ∙ c.loop-k.invariant.2, rw (m, add-one k) (rw (add-one k) at (sym next) ∙ c.loop-k.invariant.3))

pub shape_of-masks : goal.shape_of-masks
shape_of-masks c = c.loop-k.invariant.2

pub returns : goal.returns
returns c =
    let a = c.args in
    let w = a.work.now in
    sym (ap (λ (K : List Segment). sets c.loop-k.masks c.loop-k.k (bytes_by (fill_number a.rules) (overlay_number a.rules) w (rows_from entries a.scan.now 0 a.node.used) K)) (rows-done segments w a.e c.loop-k.k (omega arith))) ∙ c.loop-k.invariant.3
