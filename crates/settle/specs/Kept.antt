-- What every list of a run keeps, so that none of its parts refuses: the segments have room, lie on the grid, run forward, and their counts stay within ±(2^31 - 1).
use Rattle.std.specs.Prelude.{◌≡◌, List, ℕ, ◌≤◌, ℤ, length}
use Rattle.whole.specs.Kind.{rows_from}
use Rattle.whole.specs.Sum.{All}
use Rattle.geom.specs.declared.Segment.{Segment}
use Rattle.geom.specs.Limits.{work_room, mark_room}
use Rattle.geom.specs.Rows.{segments}
use Rattle.segm.specs.MergeLaws.{Near}
use Rattle.split.specs.Marks.{marks as mark_rows}
use Rattle.split.specs.Look.{look}
use Rattle.overlay.specs.Looks.{radius}
use Rattle.demands.specs.Pieces.{Good}

pub record Sound (v : Segment) : Type 0 where
  pub good : Good v
  pub near : Near v

-- of the first m rows
pub record Kept (xs : List ℤ) (m : ℕ) : Type 0 where
  pub room : m ≤ work_room (length xs)
  pub sound : All Sound (rows_from segments xs 0 m)

-- the first `count` marks are those of a look at L
pub record Marked (L : List Segment) (zs : List ℤ) (count : ℕ) : Type 0 where
  pub room : count ≤ mark_room (length zs)
  pub marks : rows_from mark_rows zs 0 count ≡ look radius L
