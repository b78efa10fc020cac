-- The order of points is geom's; here its tests, said with T.
use Rattle.std.specs.Prelude.{◌≡◌, ◌↔◌, T}
use Rattle.geom.specs.declared.Point.{Point}
use Rattle.geom.specs.Plane.{Before, before, same_point}
use Rattle.geom.proofs.TestsLaws.{before?, same_point?}
use Rattle.whole.specs.Decide.{test_is}
pub use Rattle.geom.specs.Order.{point-eq, before_irr, before-trans, Order, sooner, equal, later, order}

pub before_is : (p q : Point) → T (before p q) ↔ Before p q
before_is p q = test_is (before? p q)

pub same-point_is : (p q : Point) → T (same_point p q) ↔ (p ≡ q)
same-point_is p q = test_is (same_point? p q)
