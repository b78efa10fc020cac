-- `sums_below`: the loop adds up entry after entry (Adding); an entry's counts are those of its segment, so they are of 32 bits.
use mathlib.Core.Path.{ap, sym, ◌∙◌}
use mathlib.Core.List.{◌∷◌}
use Prim.Native.Nat.{◌<◌, ◌≤◌, ◌+◌, ◌-◌}
use native.Mathlib.Omega.{arith}
use lib.IntN.{nat_abs}
use mir.Syntax.{w32}
use mir.Val.{SFits}
use borrow.Author.Rules.{sfits_of}
use Rattle.whole.specs.Kind.{rows_from}
use Rattle.whole.proofs.KindLaws.{rows_step, rows-done}
use Rattle.geom.specs.declared.Segment.{Segment}
use Rattle.geom.specs.Plane.{Side, subject, clip}
use Rattle.edges.specs.Below.{below}
use Rattle.scan.specs.declared.list.Entry.{Entry}
use Rattle.scan.specs.Scan.{entries, named, EntryOf, amount}
use Rattle.scan.proofs.Entries.{all_row}
use Rattle.scan.proofs.Adding.{adding_from, adding_step, sums-done, small_entry}
use Rattle.scan.proofs.sums.sums_below.Goals as goal
use Rattle.scan.proofs.sums.sums_below.Goals.{After-entry_at-t, After-named-v}

entry : (c : After-entry_at-t) → EntryOf c.args.work.now c.args.n c.entry_at-t.result
entry c =
    rw c.entry_at-t.ensures (all_row entries c.args.scan.now 0 c.args.used c.requires.all c.loop-k.k (omega arith) (omega arith))

in-subject : (c : After-named-v) → SFits w32 c.named-v.result.subject.0
in-subject c = sfits_of {w = w32} c.named-v.type_inv.1.1.1.1.0.1.1.0.1

in-clip : (c : After-named-v) → SFits w32 c.named-v.result.clip.0
in-clip c = sfits_of {w = w32} c.named-v.type_inv.1.1.1.1.1.0.1.1.0.1

small : (c : After-named-v) (side : Side) → nat_abs (amount side c.entry_at-t.result) ≤ 2147483648
small c = small_entry (entry c.before) c.named-v.ensures (in-subject c) (in-clip c)

pub loop-k-init : goal.loop-k-init
loop-k-init c = (c.requires.used_in_bounds.2, adding_from c.args.used c.requires.used_in_bounds.2 c.requires.reached)

pub named-v-requires : goal.named-v-requires
named-v-requires c = record { n_in_bounds = c.requires.n_in_bounds; entry_of = entry c }

pub is_below-hit-requires : goal.is_below-hit-requires
is_below-hit-requires c =
    let t = entry (goal.at.is_below-hit-requires c).After-entry_at-t in
    let e = c.named-v.ensures ∙ ap (λ (u : Entry). named c.args.work.now u) t.is in
    record { grid_segment = rw e (c.requires.on_grids.each t.number t.small); grid_segment_2 = c.requires.grid_segment }

pub add_if-sum-requires : goal.add_if-sum-requires
add_if-sum-requires c =
    let few = c.requires.used_in_bounds in
    let g = c.loop-k.invariant.1 in
    let h : c.loop-k.k < 2048 = omega arith in
    record { subject_bound = (omega (arith, g.near subject), omega (arith, g.near clip)); subject_bound_2 = (small (goal.at.add_if-sum-requires c).After-named-v subject, small (goal.at.add_if-sum-requires c).After-named-v clip) }

pub loop-k-preserved : goal.loop-k-preserved
loop-k-preserved c =
    let a = c.args in
    let more = rows_step entries a.scan.now a.used c.loop-k.k (omega arith) ∙ ap (λ (u : Entry). u ∷ rows_from entries a.scan.now (c.loop-k.k + 1) (a.used - (c.loop-k.k + 1))) (sym c.entry_at-t.ensures) in
    (omega arith, adding_step (λ u. below (named a.work.now u) a.e) (rows_from entries a.scan.now 0 a.used) c.loop-k.invariant.1 more (small (goal.at.loop-k-preserved c).After-named-v) (c.is_below-hit.ensures ∙ ap (λ (u : Segment). below u a.e) c.named-v.ensures) c.add_if-sum.ensures)

pub returns : goal.returns
returns c =
    let l = c.loop-k in
    let a = c.args in
    let few = c.requires.used_in_bounds in
    let near = l.invariant.1.near in
    record { sums = sums-done a.work.now a.e l.invariant.1 (rows-done entries a.scan.now a.used l.k (omega arith)); near = (omega (arith, near subject), omega (arith, near clip)) }
