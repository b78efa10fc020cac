-- `is_under`: where the turn at e.a is neither under 0 nor over it, it is 0, and the slope decides.
use mathlib.Core.Path.{◌≡◌, sym, ◌∙◌}
use lib.IntN.{pos}
use lib.Signed.{◌≤ℤ◌}
use mir.Syntax.{w64}
use mir.Val.{to_z, of_z}
use Rattle.whole.specs.Fit.{held}
use Rattle.whole.specs.Order.{zz}
use Rattle.whole.proofs.TestLaws.{lt_not}
use Rattle.geom.specs.Plane.{against}
use Rattle.geom.proofs.Bounds.{turn-fits}
use Rattle.edges.proofs.Under.{lies_on}
use Rattle.edges.proofs.is_under.Goals as goal

pub returns-else-height-gt0 : goal.returns-else-height-gt0
returns-else-height-gt0 c =
    let a = c.args in
    let g = c.requires in
    let e : to_z w64 (of_z w64 c.turn-height.result) ≡ against a.t a.e.a = held c.turn-height.ensures (turn-fits g.grid_segment.a g.grid_segment.b g.grid_segment_2.a) in
    let low : pos 0 ≤ℤ to_z w64 (of_z w64 c.turn-height.result) = lt_not c.if-height-lt0.false in
    let high : to_z w64 (of_z w64 c.turn-height.result) ≤ℤ pos 0 = lt_not c.if-height-gt0.false in
    c.is_under_at.ensures ∙ sym (lies_on a.t a.e (omega (zz, e, low, high)))
