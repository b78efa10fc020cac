-- `middles::on_upright` meets its contract: both numbers that are divided fit a word, and the point lands on the grid.
use mathlib.Core.Path.{◌≡◌, sym, ap, ◌∙◌}
use lib.IntN.{◌+ℤ◌, ◌-ℤ◌}
use lib.Signed.{quot_z}
use Rattle.geom.specs.declared.Coord.{Coord}
use Rattle.geom.specs.Plane.{point}
use Rattle.plane.specs.Apart.{o₁}
use Rattle.middles.specs.Point.{cross_point}
use Rattle.middles.proofs.Boxes.{middle_on_grid}
use Rattle.middles.proofs.Ways.{upright-cut, upright-point}
use Rattle.middles.proofs.on_upright.Goals as goal
use Rattle.middles.proofs.on_upright.Goals.{Start}

way : (c : Start) → let t = c.args.target in let o = c.args.other in cross_point t o ≡ point t.a.x.0 (t.a.y.0 +ℤ quot_z (o₁ o t) (o.a.x.0 -ℤ o.b.x.0))
way c = upright-point c.requires.grid_segment c.requires.grid_segment_2 c.requires.middle c.requires.x_value

pub reduced-y-requires : goal.reduced-y-requires
reduced-y-requires c =
    let o = c.requires.grid_segment_2 in
    record { grid_segment = o; grid_point = c.requires.grid_segment.a; on_grid = o.a.x; on_grid_2 = o.b.x; cut = upright-cut c.requires.grid_segment o c.requires.middle c.requires.x_value; on_grid_3 = (rw (way (goal.at.reduced-y-requires c).Start) at (middle_on_grid c.requires.grid_segment c.requires.middle)).y }

pub returns : goal.returns
returns c = ap (λ (z : Coord). record { x = c.args.target.a.x; y = z }) c.reduced-y.ensures ∙ sym (way (goal.at.returns c).Start)
