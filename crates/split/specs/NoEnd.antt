-- Every mark of a pair names one of the two, its point is no end of that segment and on the grid; for every radius ("Crossing"). And the end that a middle point is
-- moved to never lies on the other line, so that there is nothing to skip.
use Rattle.std.specs.Prelude.{ℕ}
use Rattle.geom.specs.declared.Point.{Point}
use Rattle.geom.specs.declared.Segment.{Segment}
use Rattle.plane.specs.NoEnd.{NoEnd}
use Rattle.split.specs.declared.answer.Mark.{Mark}
use Rattle.split.specs.Look.{mark}
use Rattle.cross.specs.Outcome.{Place}

-- of segment i, which is t, or of segment j, which is o
pub data MarkOf (i j : ℕ) (t o : Segment) : Mark → Type 0 where
  of_target : {p : Point} → Place t o p → NoEnd t p → MarkOf i j t o (mark i p)
  of_other : {p : Point} → Place t o p → NoEnd o p → MarkOf i j t o (mark j p)
