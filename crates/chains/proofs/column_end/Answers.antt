-- `chains::column_end` meets its contract. The loop's invariant: with the marks from e on that join the one before them, the column is whole.
use mathlib.Core.Path.{◌≡◌, refl, sym, ap, ◌∙◌}
use mathlib.Core.Bool.{Bool, true, false, not}
use Rattle.std.proofs.Common.{int_eq}
use Rattle.geom.proofs.Derived.{equal}
use Rattle.geom.specs.declared.Point.{Point}
use Rattle.split.specs.declared.answer.Mark.{Mark}
use Prim.Native.Nat.{◌+◌, ◌-◌}
use native.Mathlib.Omega.{arith}
use Rattle.geom.specs.Plane.{sameZ}
use Rattle.chains.specs.Steps.{points, joined}
use Rattle.chains.proofs.Points.{points-step, points-done, joined-more, joined_stop, joined-none}
use Rattle.chains.proofs.column_end.Goals as goal

twice : (b : Bool) → b ≡ not (not b)
twice true = refl
twice false = refl

-- the answer of the derived comparison, in the words of the definition
stands : (p : Point) {m n : Mark} {r : Bool} → m ≡ n → r ≡ not (int_eq p.x.0 m.point.x.0) → sameZ p.x.0 n.point.x.0 ≡ not r
stands p {m} e f =
    sym (ap (λ m. sameZ p.x.0 m.point.x.0) e) ∙ sym (equal p.x.0 m.point.x.0) ∙ twice (int_eq p.x.0 m.point.x.0) ∙ sym (ap not f)

pub returns-then-ne : goal.returns-then-ne
returns-then-ne c =
    let l = c.loop-e in
    let x = c.args in
    let t = stands l.p c.read-in-loop-e.ensures c.ne.ensures ∙ ap not c.if-ne.true in
    record { value = omega (arith, l.invariant.2, joined_stop l.p (points-step x.run.now x.size l.e (omega arith)) t); lower_bound = (l.invariant.0, l.invariant.1) }

pub loop-e-preserved : goal.loop-e-preserved
loop-e-preserved c =
    let l = c.loop-e in
    let x = c.args in
    let q = ap (λ m. m.point) c.read-in-loop-e.ensures in
    let t = stands l.p c.read-in-loop-e.ensures c.ne.ensures ∙ ap not c.if-ne.false in
    let j = joined-more l.p (points-step x.run.now x.size l.e (omega arith)) t in
    let k = ap (λ q. joined q (points x.run.now (l.e + 1) (x.size - (l.e + 1)))) q in
    (omega arith, omega arith, omega (arith, l.invariant.2, j, k))

pub returns : goal.returns
returns c =
    let l = c.loop-e in
    let x = c.args in
    record { value = omega (arith, l.invariant.2, joined-none l.p (points-done x.run.now x.size l.e (omega arith))); lower_bound = (omega arith, omega arith) }
