-- Points equal or in order, as facts and as tests.
use Rattle.std.specs.Prelude.{◌≡◌, true, false, ◌≤ℤ◌}
use Rattle.std.proofs.Common.{subst, inl, inr}
use Rattle.whole.specs.Order.{zz}
use Rattle.whole.specs.Test.{is_true, is_false}
use Rattle.whole.proofs.TestLaws.{of_true}
use Rattle.geom.specs.declared.Point.{Point}
use Rattle.geom.specs.Plane.{same_point, Before, by_x, by_y}
use Rattle.plane.specs.Order.{same-point_is, before_irr, before-trans}
use Rattle.plane.specs.Apart.{UpTo}

pub point_of : {p q : Point} → same_point p q ≡ true → p ≡ q
point_of {p} {q} e = (same-point_is p q).0 (of_true e)

pub point-yes : {p q : Point} → p ≡ q → same_point p q ≡ true
point-yes {p} {q} e = is_true ((same-point_is p q).1 e)

pub point_no : (p q : Point) → (p ≡ q → ⊥) → same_point p q ≡ false
point_no p q f = is_false (λ t. f ((same-point_is p q).0 t))

-- what is before does not lie left of it
pub runs : {p q : Point} → Before p q → p.x.0 ≤ℤ q.x.0
runs (by_x h) = omega zz
runs (by_y h k) = omega zz

pub never_upto : {p q : Point} → Before p q → UpTo q p → ⊥
never_upto {p} h (inl e) = before_irr (subst (λ r. Before p r) e h)
never_upto h (inr k) = before_irr (before-trans h k)

pub then_upto : {p q r : Point} → Before p q → UpTo q r → Before p r
then_upto {p} h (inl e) = subst (λ s. Before p s) e h
then_upto h (inr k) = before-trans h k
