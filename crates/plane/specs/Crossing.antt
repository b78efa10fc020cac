-- The middle point. Every point common to the two lines has the offsets o₁ f e · (e.b - e.a) / (o₁ f e - o₂ f e) from e.a: that is the fraction of document 01's
-- "Middle point", with e the target. So the offsets rounded by less than 1 give a point in both boxes, whichever way the segments run: nothing strict is needed.
use Rattle.std.specs.Prelude.{ℤ, ◌≤ℤ◌}
use Rattle.geom.specs.declared.Point.{Point}
use Rattle.geom.specs.declared.Segment.{Segment}

-- ---- the boxes
pub data Span (p q t : ℤ) : Type 0 where
  up : p ≤ℤ t → t ≤ℤ q → Span p q t
  down : q ≤ℤ t → t ≤ℤ p → Span p q t

pub record InBox (e : Segment) (p : Point) : Type 0 where
  pub in_x : Span e.a.x.0 e.b.x.0 p.x.0
  pub in_y : Span e.a.y.0 e.b.y.0 p.y.0

abbrev pub InBoth : Segment → Segment → Point → Type 0
InBoth e f p = InBox e p × InBox f p
