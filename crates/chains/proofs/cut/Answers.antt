-- `chains::cut` meets its contract. The loop's invariant: the columns that are left give, from the point before them and the next row on, the same list.
-- A turn of the loop is one column, in the order that its neighbours decide; its marks are read in a part of the run.
use mathlib.Core.Path.{◌≡◌, sym, ap, ◌∙◌}
use mathlib.Core.List.{reverse}
use mathlib.Core.Bool.{cond}
use Prim.Native.Nat.{◌+◌, ◌-◌, ◌*◌}
use native.Mathlib.Omega.{arith}
use lib.ListN.{length, take, drop}
use lib.Seq.{length-sets}
use lib.Signed.{lt_z}
use Rattle.whole.specs.Kind.{flat}
use Rattle.geom.specs.Rows.{segments}
use Rattle.split.specs.Chain.{columns, chain_from, pieces_from}
use Rattle.chains.specs.Steps.{points, pieces_to, taken}
use Rattle.chains.proofs.Points.{points-done, column-split, taken-all, length_taken, part-points}
use Rattle.chains.proofs.Pieces.{rows_at, column-step, chain-none}
use Rattle.chains.proofs.cut.Goals as goal

pub loop-g-preserved : goal.loop-g-preserved
loop-g-preserved c =
    let l = c.loop-g in
    let x = c.args in
    let zs = x.run.now in
    let e = c.column_end-e.result in
    let j = c.column_end-e.ensures.value in
    let inside = c.column_end-e.ensures.lower_bound in
    let part = take (3 * e - 3 * l.g) (drop (3 * l.g) zs) in
    let t = c.falls-back.ensures ∙ ap (λ y. lt_z y l.p.y.0) c.next_y.ensures in
    let h = taken-all c.falls-back.result part (e - l.g) ∙ ap (λ ps. cond c.falls-back.result (reverse ps) ps) (part-points zs l.g e) in (
      inside.1,
      ap length c.walk-p.ensures.work_after ∙ length-sets l.work (6 * (x.at + l.g)) (flat segments (pieces_to x.v l.p (taken c.falls-back.result part (e - l.g) (e - l.g)))) ∙ l.invariant.1,
      column-step l.work (x.at + l.g) (x.at + e) x.v l.p (column-split zs x.size l.g e (omega arith) j) t h
          (omega (arith, length_taken c.falls-back.result part (e - l.g) (e - l.g))) c.walk-p.ensures.value c.walk-p.ensures.work_after
          ∙ l.invariant.2,
    )

pub returns : goal.returns
unfolding columns
returns c =
    let l = c.loop-g in
    let x = c.args in
    let g : l.g ≡ x.size = omega arith in
    let f : x.at + l.g ≡ x.at + x.size = omega arith in
    c.write.ensures
    ∙ chain-none l.work (x.at + x.size) x.v l.p (ap columns (points-done x.run.now x.size l.g (omega arith))) c.piece.ensures
    ∙ ap (λ k. rows_at l.work k (pieces_from x.v l.p (chain_from l.p x.v.b (columns (points x.run.now l.g (x.size - l.g)))))) (sym f)
    ∙ l.invariant.2
