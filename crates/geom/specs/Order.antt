-- The order of points, x first, then y, is total.
use Rattle.std.specs.Prelude.{◌≡◌}
use Rattle.std.proofs.Common.{sym, ap, ap₂, ◌∙◌}
use Rattle.whole.specs.Order.{zz}
use Rattle.whole.specs.Sign.{Tri, less, same, more}
use Rattle.whole.proofs.SignLaws.{tri}
use Rattle.geom.specs.declared.Point.{Point}
use Rattle.geom.specs.Plane.{point, Before, by_x, by_y}

pub point-eq : {p q : Point} → p.x.0 ≡ q.x.0 → p.y.0 ≡ q.y.0 → p ≡ q
point-eq h k = ap₂ point h k

pub before_irr : {p : Point} → Before p p → ⊥
before_irr (by_x h) = omega zz
before_irr (by_y e h) = omega zz

pub before-trans : {p q r : Point} → Before p q → Before q r → Before p r
before-trans (by_x h) (by_x k) = by_x (omega zz)
before-trans (by_x h) (by_y e k) = by_x (omega zz)
before-trans (by_y e h) (by_x k) = by_x (omega zz)
before-trans (by_y e h) (by_y f k) = by_y (e ∙ f) (omega zz)

pub before-asym : {p q : Point} → Before p q → Before q p → ⊥
before-asym h k = before_irr (before-trans h k)

pub before-differ : {p q : Point} → Before p q → p ≡ q → ⊥
before-differ (by_x h) e = omega (zz, ap (λ t. t.x.0) e)
before-differ (by_y _ h) e = omega (zz, ap (λ t. t.y.0) e)

pub data Order (p q : Point) : Type 0 where
  sooner : Before p q → Order p q
  equal : p ≡ q → Order p q
  later : Before q p → Order p q

pub order : (p q : Point) → Order p q
order p q = go (tri p.x.0 q.x.0) (tri p.y.0 q.y.0)
  where
    go : Tri p.x.0 q.x.0 → Tri p.y.0 q.y.0 → Order p q
    go (less h) k = sooner (by_x h)
    go (more h) k = later (by_x h)
    go (same h) (less k) = sooner (by_y h k)
    go (same h) (same k) = equal (point-eq h k)
    go (same h) (more k) = later (by_y (sym h) k)
