-- `chains::walk` meets its contract. The loop's invariant: the points that are left give, from the last one and the next row on, the same end and the same list.
use mathlib.Core.Path.{◌≡◌, sym, ap, ap₂, ◌∙◌}
use mathlib.Core.Bool.{cond}
use mathlib.Core.List.{◌∷◌}
use Prim.Native.Nat.{◌+◌, ◌-◌}
use native.Mathlib.Omega.{arith}
use lib.ListN.{length}
use Rattle.whole.proofs.KindLaws.{length_put}
use Rattle.geom.specs.Rows.{segments}
use Rattle.chains.specs.Steps.{point_at, taken}
use Rattle.chains.proofs.Points.{taken_step, taken_none}
use Rattle.chains.proofs.Pieces.{piece-step, last_step, piece-none, last_none}
use Rattle.chains.proofs.walk.Goals as goal

pub loop-i-preserved : goal.loop-i-preserved
loop-i-preserved c =
    let l = c.loop-i in
    let x = c.args in
    let k : x.size - 1 - l.i ≡ x.size - l.i - 1 = omega arith in
    let j : l.i ≡ x.size - (x.size - l.i) = omega arith in
    let n : x.size - l.i - 1 ≡ x.size - (l.i + 1) = omega arith in
    let q : c.next_point-q.result ≡ point_at x.column.now (cond x.back (x.size - l.i - 1) (x.size - (x.size - l.i))) =
    c.next_point-q.ensures ∙ ap₂ (λ a b. point_at x.column.now (cond x.back a b)) k j in
    let e : taken x.back x.column.now x.size (x.size - l.i) ≡ c.next_point-q.result ∷ taken x.back x.column.now x.size (x.size - (l.i + 1)) =
    taken_step x.back x.column.now x.size (x.size - l.i) (omega arith) ∙ ap₂ (λ q k. q ∷ taken x.back x.column.now x.size k) (sym q) n in (
      omega arith,
      ap length c.write.ensures ∙ length_put segments l.work (x.at + l.i) c.piece.result ∙ l.invariant.1,
      last_step l.last e ∙ l.invariant.2,
      piece-step l.work (x.at + l.i) (x.at + (l.i + 1)) x.v l.last c.piece.ensures c.write.ensures (omega arith) e ∙ l.invariant.3,
    )

pub returns : goal.returns
returns c =
    let l = c.loop-i in
    let x = c.args in
    let e = taken_none x.back x.column.now x.size (x.size - l.i) (omega arith) in
    record { value = sym (last_none l.last e) ∙ l.invariant.2; work_after = sym (piece-none l.work (x.at + l.i) x.v l.last e) ∙ l.invariant.3 }
