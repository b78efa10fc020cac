-- The four sides of a pair, in the numbers of the definitions.
use Rattle.std.specs.Prelude.{Bool, ◌||◌, ℕ, eqb, Option}
use Rattle.geom.specs.declared.Segment.{Segment}
use Rattle.turns.specs.Orientation.{number_of}
use Rattle.cross.specs.declared.answer.Cross.{Cross}
use Rattle.cross.specs.Cross.{cross_by}
use Rattle.cross.specs.Middle.{Sides as IsSides, zeros_of}
use Rattle.crossings.specs.declared.Sides.{Sides}

-- they are those of target and other
abbrev pub SidesOf : Segment → Segment → Sides → Type 0
SidesOf t o s = IsSides t o (number_of s.other_a) (number_of s.other_b) (number_of s.target_a) (number_of s.target_b)

-- both ends of one lie on one side of the other's line, or both on it
abbrev pub same : Sides → Bool
same s = eqb (number_of s.other_a) (number_of s.other_b) || eqb (number_of s.target_a) (number_of s.target_b)

-- how many of the ends lie on the other's line
abbrev pub zeros : Sides → ℕ
zeros s = zeros_of (number_of s.other_a) (number_of s.other_b) (number_of s.target_a) (number_of s.target_b)

-- what target and other make of them
abbrev pub by_sides : ℕ → Segment → Segment → Sides → Option Cross
by_sides radius t o s = cross_by radius t o (number_of s.other_a) (number_of s.other_b) (number_of s.target_a) (number_of s.target_b)
