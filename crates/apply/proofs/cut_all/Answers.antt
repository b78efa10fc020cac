-- `apply::cut_all` meets its contract. The loop's invariant: the marks from e on are those of the segments from i on, whose pieces stand from row i + e on;
-- the rows before are as they were.
use mathlib.Core.Path.{◌≡◌, refl, sym, ap, subst, ◌∙◌}
use Prim.Native.Nat.{◌+◌, ◌-◌, ◌*◌}
use native.Mathlib.Nat.{sub-zero}
use native.Mathlib.Omega.{arith}
use borrow.Author.Rules.{rules}
use lib.ListN.{length, take, drop}
use lib.Seq.{length-sets}
use mir.Syntax.{w32}
use mir.Val.{SFits}
use Rattle.whole.specs.Kind.{row_at, rows_from, flat}
use Rattle.geom.specs.Rows.{segments}
use Rattle.split.specs.Marks.{marks as mark_rows}
use Rattle.split.specs.Chain.{chain, pieces_from, split_from}
use Rattle.chains.specs.Steps.{points}
use Rattle.steps.proofs.Least.{countable}
use Rattle.chains.proofs.Points.{part-points, length-points}
use Rattle.chains.proofs.Pieces.{rows_at, row_kept}
use Rattle.apply.proofs.Runs.{Edge, edge-all, edge_none, edge-next, run_points}
use Rattle.apply.proofs.Back.{pieces_on, none_yet, cut_step}
use Rattle.apply.proofs.cut_all.Goals as goal
use Rattle.apply.proofs.cut_all.Goals.{After-read-v}

pub loop-i-init : goal.loop-i-init
loop-i-init c =
    let x = c.args in
    let ms = rows_from mark_rows x.marks.now 0 x.count in
    (omega arith, omega arith, refl, edge-all x.n x.marks.now x.count c.requires.count_value, none_yet ms x.work.now x.n (x.n + x.count))

-- segment number i - 1 stands before the pieces, so it is as it was
own_row : (c : After-read-v) → c.read-v.result ≡ row_at segments c.args.work.now (c.loop-i.i - 1)
own_row c =
    let l = c.loop-i in
    let x = c.args in
    let ms = rows_from mark_rows x.marks.now 0 x.count in
    c.read-v.ensures
    ∙ ap (λ t. row_at segments t (l.i - 1)) l.invariant.4
    ∙ row_kept x.work.now (l.i + l.e) (pieces_on ms x.work.now x.n l.i) (l.i - 1) (omega arith)

fits-subject : (c : After-read-v) → SFits w32 c.read-v.result.subject.0
fits-subject c = search rules

fits-clip : (c : After-read-v) → SFits w32 c.read-v.result.clip.0
fits-clip c = search rules

pub cut-requires : goal.cut-requires
cut-requires c =
    let l = c.loop-i in
    let x = c.args in
    let k = countable x.work.now x.n c.requires.n_value (l.i - 1) (omega arith) c.read-v.result (own_row (goal.at.cut-requires c).After-read-v) (fits-subject (goal.at.cut-requires c).After-read-v) (fits-clip (goal.at.cut-requires c).After-read-v) in
    record { countable = k.0; countable_2 = k.1; size_in_bounds = search rules; size_in_bounds_2 = search rules }

pub loop-i-preserved : goal.loop-i-preserved
loop-i-preserved c =
    let l = c.loop-i in
    let x = c.args in
    let zs = x.marks.now in
    let ms = rows_from mark_rows zs 0 x.count in
    let o = c.requires.count_value in
    let i : l.i ≡ l.i - 1 + 1 = omega arith in
    let d = subst (λ i. Edge zs x.count i l.e) i l.invariant.3 in
    let f = subst (λ i. l.work ≡ rows_at x.work.now (i + l.e) (pieces_on ms x.work.now x.n i)) i l.invariant.4 in
    let st = c.run_start-a.ensures.value in
    let le = c.run_start-a.ensures.upper_bound in
    let b = c.run_start-a.result in
    let ps = points (take (3 * l.e - 3 * b) (drop (3 * b) zs)) 0 (l.e - b) in
    let run = run_points x.n zs x.count o (l.i - 1) l.e l.invariant.1 d ∙ ap (λ t. points zs t (l.e - t)) (sym st) ∙ sym (part-points zs b l.e) in (
      omega arith,
      omega arith,
      ap length c.cut.ensures ∙ length-sets l.work (6 * (l.i - 1 + b)) (flat segments (pieces_from c.read-v.result c.read-v.result.a (chain c.read-v.result ps))) ∙ l.invariant.2,
      subst (Edge zs x.count (l.i - 1)) (sym st) (edge-next x.n zs x.count o (l.i - 1) l.e l.invariant.1 d),
      cut_step ms x.work.now l.work x.n (l.i - 1) l.e b (omega arith) le f (own_row (goal.at.loop-i-preserved c).After-read-v) run (length-points (take (3 * l.e - 3 * b) (drop (3 * b) zs)) 0 (l.e - b)) c.cut.ensures,
    )

pub returns : goal.returns
returns c =
    let l = c.loop-i in
    let x = c.args in
    let zs = x.marks.now in
    let ms = rows_from mark_rows zs 0 x.count in
    let i : l.i ≡ 0 = omega arith in
    let d = subst (λ i. Edge zs x.count i l.e) i l.invariant.3 in
    let e = edge_none x.n zs x.count c.requires.count_value l.e l.invariant.1 d in
    l.invariant.4
    ∙ ap (λ i. rows_at x.work.now (i + l.e) (pieces_on ms x.work.now x.n i)) i
    ∙ ap (λ e. rows_at x.work.now (0 + e) (pieces_on ms x.work.now x.n 0)) e
    ∙ ap (λ k. rows_at x.work.now 0 (split_from 0 ms (rows_from segments x.work.now 0 k))) (sub-zero x.n)
