-- The sum below an edge e anywhere along it: at a point X/d, Y/d strictly within e the sum over what passes strictly under that point is the bottom of e.
-- The argument of `Along`, with the strip cut at X/d.
use Rattle.std.specs.Prelude.{◌≡◌, pos, ◌*ℤ◌, ◌<ℤ◌}
use Rattle.geom.specs.declared.Segment.{Segment}
use Rattle.geom.specs.Off.{Off, cross}

-- strictly within e
pub record Inside (e : Segment) (P : Off) : Type 0 where
  pub line : cross e P ≡ pos 0
  pub past : (P.d *ℤ e.a.x.0) <ℤ P.X
  pub short : P.X <ℤ (P.d *ℤ e.b.x.0)
