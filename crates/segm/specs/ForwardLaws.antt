-- What turning forward gives: ends on the grid stay there, a segment with a ≠ b runs forward, and counts stay as far from 0.
use Rattle.std.specs.Prelude.{◌≡◌, refl, Bool, true, false, cond, ◌≤◌, ℤ, nat_abs, neg_ℤ}
use Rattle.std.proofs.Common.{arith}
use Rattle.whole.specs.Order.{neg_is}
use Rattle.whole.specs.Sign.{abs_is}
use Rattle.geom.specs.declared.Segment.{Segment}
use Rattle.geom.specs.Plane.{subject, clip, GridSegment, Before, before, turned}
use Rattle.geom.specs.Order.{Order, sooner, equal, later, order}
use Rattle.geom.specs.Tests.{when_true, when_false}
use Rattle.geom.proofs.TestsLaws.{before?}
use Rattle.segm.specs.Forward.{forward}
use Rattle.segm.specs.MergeLaws.{Near}

-- by what both a segment and the same turned have
either_way : (P : Segment → Type 0) (v : Segment) → (before v.b v.a ≡ true → P (turned v)) → (before v.b v.a ≡ false → P v) → P (forward v)
unfolding forward
either_way P v f g = go (before v.b v.a) f g
  where
    go : (b : Bool) → (b ≡ true → P (turned v)) → (b ≡ false → P v) → P (cond b (turned v) v)
    go true f g = f refl
    go false f g = g refl

pub forward-grid : (v : Segment) → GridSegment v → GridSegment (forward v)
forward-grid v h = either_way GridSegment v (λ e. record { a = h.b; b = h.a }) (λ e. h)

pub forward_runs : (v : Segment) → (v.a ≡ v.b → ⊥) → Before (forward v).a (forward v).b
forward_runs v apart = either_way (λ t. Before t.a t.b) v (λ e. when_true (before? v.b v.a) e) (λ e. go (when_false (before? v.b v.a) e) (order v.a v.b))
  where
    go : (Before v.b v.a → ⊥) → Order v.a v.b → Before v.a v.b
    go n (sooner h) = h
    go n (equal h) = absurd (apart h)
    go n (later h) = absurd (n h)

abs_neg : (z : ℤ) → nat_abs z ≤ 2147483647 → nat_abs (neg_ℤ z) ≤ 2147483647
abs_neg z h = omega (arith, abs_is z, abs_is (neg_ℤ z), neg_is z)

pub forward-near : (v : Segment) → Near v → Near (forward v)
forward-near v h = either_way Near v (λ e. near) (λ e. h)
  where
    near : Near (turned v)
    near subject = abs_neg v.subject.0 (h subject)
    near clip = abs_neg v.clip.0 (h clip)
