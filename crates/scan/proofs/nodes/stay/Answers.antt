-- `stay` is the pass that keeps what is live, made in place, and adds it up (Walking).
use mathlib.Core.Path.{◌≡◌, ap, sym, ◌∙◌}
use mathlib.Core.Bool.{false}
use Prim.Native.Nat.{◌<◌, ◌≤◌}
use native.Mathlib.Omega.{arith}
use lib.IntN.{nat_abs}
use mir.Syntax.{w32}
use mir.Val.{SFits}
use borrow.Author.Rules.{sfits_of}
use Rattle.geom.specs.declared.Segment.{Segment}
use Rattle.geom.specs.Plane.{Side, subject, clip}
use Rattle.edges.specs.Below.{live, height_at}
use Rattle.scan.specs.declared.list.Entry.{Entry}
use Rattle.scan.specs.declared.sums.Sums.{Sums}
use Rattle.scan.specs.Scan.{entries, named, EntryOf, live_at, amount}
use Rattle.scan.proofs.Entries.{all_row}
use Rattle.scan.proofs.Adding.{small_entry, none_is}
use Rattle.scan.proofs.Walking.{walking_start, walking_yes, walking_no, walked}
use Rattle.scan.proofs.nodes.stay.Goals as goal
use Rattle.scan.proofs.nodes.stay.Goals.{After-entry_at-t, After-is_live, After-named-v}

entry : (c : After-entry_at-t) → EntryOf c.args.work.now c.args.n c.entry_at-t.result
entry c =
    rw (c.entry_at-t.ensures, c.loop-k.invariant.going.ahead c.loop-k.k (omega arith))
    (all_row entries c.args.scan.now 0 c.args.used c.requires.all c.loop-k.k (omega arith) (omega arith))

in-subject : (c : After-named-v) → SFits w32 c.named-v.result.subject.0
in-subject c = sfits_of {w = w32} c.named-v.type_inv.1.1.1.1.0.1.1.0.1

in-clip : (c : After-named-v) → SFits w32 c.named-v.result.clip.0
in-clip c = sfits_of {w = w32} c.named-v.type_inv.1.1.1.1.1.0.1.1.0.1

small : (c : After-named-v) (side : Side) → nat_abs (amount side c.entry_at-t.result) ≤ 2147483648
small c = small_entry (entry c.before) c.named-v.ensures (in-subject c) (in-clip c)

tested : (c : After-is_live) → c.is_live.result ≡ live_at c.args.work.now c.args.p c.entry_at-t.result
tested c =
    c.is_live.ensures ∙ ap (live c.args.p) c.named-v.ensures

pub loop-k-init : goal.loop-k-init
loop-k-init c =
    let a = c.args in
    walking_start a.work.now a.p a.scan.now a.used (ap (λ (s : Sums). record { sums = s; through = false }) (none_is c.default.ensures))

pub entry_at-t-requires : goal.entry_at-t-requires
entry_at-t-requires c = omega (arith, c.loop-k.invariant.going.kept)

pub named-v-requires : goal.named-v-requires
named-v-requires c = record { n_in_bounds = c.requires.n_in_bounds; entry_of = entry c }

pub put-requires : goal.put-requires
put-requires c =
    omega (arith, c.loop-k.invariant.going.kept, c.loop-k.invariant.short)

pub overflow_add-left : goal.overflow_add-left
overflow_add-left c =
    omega (arith, c.loop-k.invariant.short)

pub height_at-requires : goal.height_at-requires
height_at-requires c =
    let t = entry (goal.at.height_at-requires c).After-entry_at-t in
    let e = c.named-v.ensures ∙ ap (λ (u : Entry). named c.args.work.now u) t.is in
    record { grid_segment = rw e (c.requires.on_grids.each t.number t.small); grid_point = c.requires.grid_point }

pub with_entry-b-requires : goal.with_entry-b-requires
with_entry-b-requires c =
    let g = c.loop-k.invariant in
    let few = c.requires.used_in_bounds.1 in
    let h : c.loop-k.left < 2048 = omega (arith, g.short) in
    record { subject_bound = (omega (arith, g.adding.near subject), omega (arith, g.adding.near clip)); subject_bound_2 = (small (goal.at.with_entry-b-requires c).After-named-v subject, small (goal.at.with_entry-b-requires c).After-named-v clip) }

pub overflow_step-k : goal.overflow_step-k
overflow_step-k c =
    omega (arith, c.loop-k-test.true)

pub loop-k-preserved : goal.loop-k-preserved
loop-k-preserved c =
    let a = c.args in
    walking_yes a.work.now a.p a.scan.now a.used c.loop-k.invariant (omega arith) c.entry_at-t.ensures (sym (tested (goal.at.loop-k-preserved c).After-is_live) ∙ c.if-not-is_live.false) (small (goal.at.loop-k-preserved c).After-named-v) c.put.ensures (c.height_at.ensures ∙ ap (λ (u : Segment). height_at u a.p) c.named-v.ensures) c.with_entry-b.ensures

pub loop-k-preserved-then-not-is_live : goal.loop-k-preserved-then-not-is_live
loop-k-preserved-then-not-is_live c =
    let a = c.args in
    walking_no a.work.now a.p a.scan.now a.used c.loop-k.invariant (omega arith) c.entry_at-t.ensures (sym (tested (goal.at.loop-k-preserved-then-not-is_live c).After-is_live) ∙ c.if-not-is_live.true)

pub shape_of-scan : goal.shape_of-scan
shape_of-scan c = c.loop-k.invariant.going.kept

pub returns : goal.returns
returns c =
    let a = c.args in
    walked a.work.now a.p a.scan.now a.used c.loop-k.invariant (omega arith) (omega arith)
