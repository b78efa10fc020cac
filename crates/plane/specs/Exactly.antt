-- Apart, exactly if every common point is an end of both. Forwards by `apart-ends`; backwards, a pair that is not apart crosses or touches,
-- and then has a common point inside one of the two: the crossing, or the end that touches, over the width of the other (its height, if upright).
use Rattle.std.specs.Prelude.{◌≡◌, ◌≤ℤ◌}
use Rattle.whole.specs.Order.{zz}
use Rattle.geom.specs.declared.Point.{Point}
use Rattle.geom.specs.declared.Segment.{Segment}
use Rattle.geom.specs.Plane.{Before, by_x, by_y}
use Rattle.geom.specs.Off.{Off, On, EndOf}
use Rattle.plane.specs.Apart.{Apart}
use Rattle.plane.specs.Pierce.{Touch, Crossed}

-- ---- a pair is apart, touches or crosses
pub data Sorted (e f : Segment) : Type 0 where
  apart : Apart e f → Sorted e f
  touch : Touch e f → Sorted e f
  cross : Crossed e f → Sorted e f

-- ---- a common point that is not an end of both
pub record Meets (e f : Segment) : Type 0 where
  pub P : Off
  pub on_e : On e P
  pub on_f : On f P
  pub free : ¬ (EndOf e P × EndOf f P)

pub between_y : {o p q : Point} → o.x.0 ≡ q.x.0 → Before o p → Before p q → (o.y.0 ≤ℤ p.y.0) × (p.y.0 ≤ℤ q.y.0)
between_y z (by_x h) (by_x k) = let y : ⊥ = omega zz in absurd y
between_y z (by_x h) (by_y g k) = let y : ⊥ = omega zz in absurd y
between_y z (by_y f h) (by_x k) = let y : ⊥ = omega zz in absurd y
between_y z (by_y f h) (by_y g k) = omega zz
