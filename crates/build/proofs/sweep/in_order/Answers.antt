-- `in_order`: the pairs before i are in order, so the list from the last of them on decides.
use mathlib.Core.Path.{◌≡◌, refl, sym, ap, ◌∙◌}
use mathlib.Core.Bool.{not, ◌&&◌}
use Prim.Native.Nat.{◌+◌, ◌-◌}
use native.Mathlib.Nat.{sub-zero}
use native.Mathlib.Omega.{arith}
use Rattle.whole.specs.Kind.{rows_from}
use Rattle.geom.specs.declared.Segment.{Segment}
use Rattle.geom.specs.Plane.{before}
use Rattle.geom.specs.Rows.{segments}
use Rattle.geom.proofs.Derived.{lt_is_before}
use Rattle.scan.specs.Scan.{segment_at}
use Rattle.build.specs.Sweep.{ordered}
use Rattle.build.proofs.Order.{order-step, order-done}
use Rattle.build.proofs.sweep.in_order.Goals as goal
use Rattle.build.proofs.sweep.in_order.Goals.{After-lt}

-- what is left, from the pair that is met
met : (c : After-lt) → let a = c.args in ordered (rows_from segments a.work.now 0 a.n) ≡ (not c.lt.result && ordered (rows_from segments a.work.now c.loop-i.i (a.n - c.loop-i.i)))
met c =
    let a = c.args in
    let w = a.work.now in
    let i = c.loop-i.i in
    let t = c.lt.ensures ∙ lt_is_before c.read-v.result.a c.read-u.result.a ∙ ap (λ (x : Segment). before x.a c.read-u.result.a) c.read-v.ensures ∙ ap (λ (x : Segment). before (segment_at w i).a x.a) c.read-u.ensures in
    sym c.loop-i.invariant.1
    ∙ order-step w a.n i (omega arith) (omega arith)
    ∙ ap (λ b. not b && ordered (rows_from segments w i (a.n - i))) (sym t)

pub loop-i-init : goal.loop-i-init
loop-i-init c = let z : 1 - 1 ≡ 0 = refl in (omega arith, rw (z, sub-zero c.args.n))

pub returns-then-lt : goal.returns-then-lt
returns-then-lt c = sym (met (goal.at.returns-then-lt c).After-lt ∙ rw c.if-lt.true)

pub loop-i-preserved : goal.loop-i-preserved
loop-i-preserved c =
    let i = c.loop-i.i in
    let e : i + 1 - 1 ≡ i = omega arith in
    (omega arith, rw e (sym (met (goal.at.loop-i-preserved c).After-lt ∙ rw c.if-lt.false)))

pub returns : goal.returns
returns c =
    let a = c.args in
    sym (order-done a.work.now a.n c.loop-i.i (omega arith) (omega arith)) ∙ c.loop-i.invariant.1
