-- `chains::next_y` meets its contract: the first column of the marks that are left starts with the next mark.
use mathlib.Core.Path.{sym, ap, ◌∙◌}
use Prim.Native.Nat.{◌+◌, ◌-◌}
use native.Mathlib.Omega.{arith}
use Rattle.split.specs.Chain.{next_y, columns}
use Rattle.chains.specs.Steps.{point_at, points}
use Rattle.chains.proofs.Points.{points-step, points-done, next_y-first}
use Rattle.chains.proofs.next_y.Goals as goal

pub returns-then-e-size : goal.returns-then-e-size
returns-then-e-size c =
    let x = c.args in
    let zs = x.run.now in
    ap (λ m. m.point.y.0) c.read.ensures
    ∙ sym (ap (λ ps. next_y x.b (columns ps)) (points-step zs x.size x.e (omega arith)) ∙ next_y-first x.b (point_at zs x.e) (points zs (x.e + 1) (x.size - (x.e + 1))))

pub returns-else-e-size : goal.returns-else-e-size
unfolding next_y columns
returns-else-e-size c =
    let x = c.args in
    sym (ap (λ ps. next_y x.b (columns ps)) (points-done x.run.now x.size x.e (omega arith)))
