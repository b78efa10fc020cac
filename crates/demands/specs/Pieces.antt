-- Splitting at the marks of a look gives segments on the grid that run forward: the marks of a segment are different points (they are tidied) and none is an end of
-- it, so the two ends of each piece differ, and it is turned as needed.
use Rattle.geom.specs.declared.Segment.{Segment}
use Rattle.geom.specs.Plane.{GridSegment, Before}

-- on the grid, and forward
abbrev pub Good : Segment → Type 0
Good t = GridSegment t × Before t.a t.b
