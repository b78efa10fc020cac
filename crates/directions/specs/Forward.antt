-- The direction of a segment ("The run"): a before b, by x and then y.
use Rattle.std.specs.Prelude.{cond}
use Rattle.geom.specs.declared.Segment.{Segment}
use Rattle.geom.specs.Plane.{before, turned}

-- a segment with a > b is turned
unfoldable pub forward : Segment → Segment
forward v = cond (before v.b v.a) (turned v) v
