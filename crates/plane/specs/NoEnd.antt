-- No mark is an end of the segment that it marks: an end inside the other is not one of its ends; where no turn is zero,
-- a point on both lines is an end of neither, and no end of one is an end of the other.
use Rattle.std.specs.Prelude.{◌≡◌, ◌≢◌, ℤ, pos}
use Rattle.std.proofs.Common.{sym, ◌∙◌, ap, subst, inl, inr}
use Rattle.whole.specs.Order.{zz}
use Rattle.geom.specs.declared.Point.{Point}
use Rattle.geom.specs.declared.Segment.{Segment}
use Rattle.geom.specs.Plane.{Before, against}
use Rattle.geom.specs.Order.{before_irr}
use Rattle.plane.specs.Apart.{o₁, o₂}
use Rattle.plane.specs.Meeting.{Parted}
use Rattle.plane.specs.Pierce.{Inside}

-- p is no end of e
pub record NoEnd (e : Segment) (p : Point) : Type 0 where
  pub not_a : p ≢ e.a
  pub not_b : p ≢ e.b

pub inside_no_end : {e : Segment} {p : Point} → Inside e p → NoEnd e p
inside_no_end {e} {p} i = record { not_a = λ z. before_irr (subst (λ (t : Point). Before e.a t) z i.after); not_b = λ z. before_irr (subst (λ (t : Point). Before t e.b) z i.ahead) }

pub record NoZero (o r : ℤ) : Type 0 where
  pub first : o ≢ pos 0
  pub second : r ≢ pos 0

pub parted_no_zero : {o r : ℤ} → Parted o r → NoZero o r
parted_no_zero (inl h) = record { first = omega zz; second = omega zz }
parted_no_zero (inr h) = record { first = omega zz; second = omega zz }

-- p on the line of f, and neither end of e on it
pub line_no_end : (e f : Segment) (p : Point) → NoZero (o₁ f e) (o₂ f e) → against f p ≡ pos 0 → NoEnd e p
line_no_end e f p n h = record { not_a = λ z. n.first (ap (λ (t : Point). against f t) (sym z) ∙ h); not_b = λ z. n.second (ap (λ (t : Point). against f t) (sym z) ∙ h) }
