-- `middles::on_level` meets its contract: as on an upright target, with x for y.
use mathlib.Core.Path.{◌≡◌, sym, ap, ◌∙◌}
use lib.IntN.{◌+ℤ◌, ◌-ℤ◌}
use lib.Signed.{quot_z}
use Rattle.geom.specs.declared.Coord.{Coord}
use Rattle.geom.specs.Plane.{point}
use Rattle.plane.specs.Apart.{o₁}
use Rattle.middles.specs.Point.{cross_point}
use Rattle.middles.proofs.Boxes.{middle_on_grid}
use Rattle.middles.proofs.Ways.{level-cut, level-point}
use Rattle.middles.proofs.on_level.Goals as goal
use Rattle.middles.proofs.on_level.Goals.{Start}

way : (c : Start) → let t = c.args.target in let o = c.args.other in cross_point t o ≡ point (t.a.x.0 +ℤ quot_z (o₁ o t) (o.b.y.0 -ℤ o.a.y.0)) t.a.y.0
way c = level-point c.requires.grid_segment c.requires.grid_segment_2 c.requires.middle c.requires.y_value

pub reduced-x-requires : goal.reduced-x-requires
reduced-x-requires c =
    let o = c.requires.grid_segment_2 in
    record { grid_segment = o; grid_point = c.requires.grid_segment.a; on_grid = o.b.y; on_grid_2 = o.a.y; cut = level-cut c.requires.grid_segment o c.requires.middle c.requires.y_value; on_grid_3 = (rw (way (goal.at.reduced-x-requires c).Start) at (middle_on_grid c.requires.grid_segment c.requires.middle)).x }

pub returns : goal.returns
returns c = ap (λ (z : Coord). record { x = z; y = c.args.target.a.y }) c.reduced-x.ensures ∙ sym (way (goal.at.returns c).Start)
