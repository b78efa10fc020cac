-- No mark is an end of the segment that it marks: an end inside the other is not one of its ends; where no turn is zero,
-- a point on both lines is an end of neither, and no end of one is an end of the other.
use Rattle.geom.specs.declared.Segment.{Segment}
use Rattle.plane.specs.Apart.{o₁, o₂}
use Rattle.plane.proofs.TurnsLaws.{turn_self, turn_end}
use Rattle.plane.specs.NoEnd.{NoEnd, NoZero, line_no_end}

-- so an end of f is no end of e
pub a_no_end : (e f : Segment) → NoZero (o₁ f e) (o₂ f e) → NoEnd e f.a
a_no_end e f n = line_no_end e f f.a n (turn_self f.a f.b)

pub b_no_end : (e f : Segment) → NoZero (o₁ f e) (o₂ f e) → NoEnd e f.b
b_no_end e f n = line_no_end e f f.b n (turn_end f.a f.b)
