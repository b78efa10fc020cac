-- Every list of a run of segments on the grid and with length is on the grid, forward, and strictly in order by its ends, so no two of its segments are equal
-- ("The run", "Merge").
use Rattle.std.specs.Prelude.{List, ◌≢◌}
use Rattle.whole.specs.Sum.{All, Pairs}
use Rattle.geom.specs.declared.Segment.{Segment}
use Rattle.geom.specs.Plane.{GridSegment}
use Rattle.segm.specs.Order.{EndsBefore}
use Rattle.demands.specs.Pieces.{Good}

-- not refused by 3 and 4
abbrev pub Fit : Segment → Type 0
Fit v = GridSegment v × (v.a ≢ v.b)

pub record Ordered (L : List Segment) : Type 0 where
  pub good : All Good L
  pub strict : Pairs EndsBefore L
