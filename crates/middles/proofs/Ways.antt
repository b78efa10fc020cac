-- The three ways of the middle point. On an upright target one offset is zero and the other fraction is reduced by target's height; on a level one by its
-- width; elsewhere both are shares to nearest.
use mathlib.Core.Path.{◌≡◌, ap, ap₂, ◌∙◌}
use mathlib.Core.Bool.{true, false, ◌||◌}
use mathlib.Core.List.{[], ◌∷◌}
use mathlib.Core.Logic.{◌≢◌}
use Prim.Native.Nat.{suc}
use native.Mathlib.Nat.{zero-div}
use lib.IntN.{ℤ, pos, negsuc, ◌+ℤ◌, ◌-ℤ◌, ◌*ℤ◌, *ℤ_comm}
use lib.Signed.{quot_z}
use Rattle.whole.specs.Order.{zz, add_is}
use Rattle.whole.specs.Ring.{reads}
use Rattle.whole.proofs.RingLaws.{ring}
use Rattle.whole.proofs.TestLaws.{or_true}
use Rattle.geom.specs.declared.Segment.{Segment}
use Rattle.geom.specs.Plane.{GridSegment, point, upright}
use Rattle.geom.specs.Tests.{Decides, holds, fails, same?}
use Rattle.geom.proofs.TestsLaws.{upright?}
use Rattle.plane.specs.Apart.{o₁}
use Rattle.plane.specs.Quotients.{nearest}
use Rattle.plane.proofs.QuotientsLaws.{cut_reduced}
use Rattle.plane.proofs.CrossingLaws.{upright-div, level-div}
use Rattle.middles.specs.Point.{level, cross_point}
use Rattle.middles.specs.Middle.{Middle, Cut, Share}
use Rattle.middles.proofs.Boxes.{by_cut, by_nearest, parted-some}
use Rattle.middles.specs.Sizes.{divisor, width, height, share_near, divisor-near, width-near, height-near}
use Rattle.middles.proofs.Steps.{parted-same, parted-less}

-- ---- offsets

left-some : (w k : ℤ) → w *ℤ k ≢ pos 0 → w ≢ pos 0
left-some w k n e = n (ap (λ z. z *ℤ k) e ∙ none)
  where
    none : pos 0 *ℤ k ≡ pos 0
    none = ring (k ∷ []) (search reads depth 20 fits 5000) tt

right-some : (w k : ℤ) → w *ℤ k ≢ pos 0 → k ≢ pos 0
right-some w k n e = left-some k w (λ z. n (*ℤ_comm w k ∙ z)) e

cut_offset : (n w k : ℤ) → w *ℤ k ≢ pos 0 → quot_z (n *ℤ w) (w *ℤ k) ≡ quot_z n k
cut_offset n w k h = rw (*ℤ_comm n w) (cut_reduced n w k (left-some w k h) (right-some w k h))

none-cut : (d : ℤ) → quot_z (pos 0) d ≡ pos 0
none-cut (pos d) = rw (zero-div d)
none-cut (negsuc d) = rw (zero-div (suc d))

none_offset : (n p q d : ℤ) → p ≡ q → p +ℤ quot_z (n *ℤ (q -ℤ p)) d ≡ p
none_offset n p q d e = rw (← e, nothing, none-cut d) (omega (zz, add_is p (pos 0)))
  where
    nothing : n *ℤ (p -ℤ p) ≡ pos 0
    nothing = ring (n ∷ p ∷ []) (search reads depth 20 fits 5000) tt

-- ---- the tests

level? : (t : Segment) → Decides (t.a.y.0 ≡ t.b.y.0) (level t)
unfolding level
level? t = same? t.a.y.0 t.b.y.0

is_level : (t : Segment) → t.a.y.0 ≡ t.b.y.0 → (upright t || level t) ≡ true
is_level t e = rw (holds (level? t) e) (or_true (upright t))

-- ---- the point

module _ {t o : Segment} (gt : GridSegment t) (go : GridSegment o) (m : Middle t o) where
  some : divisor t o ≢ pos 0
  some = parted-some m.target

  pub share_x : Share (o₁ o t) (divisor t o) (width t)
  share_x = record { same = parted-same m.target; less = parted-less m.target; d_small = divisor-near gt go; a_small = width-near gt go }

  pub share_y : Share (o₁ o t) (divisor t o) (height t)
  share_y = record { same = parted-same m.target; less = parted-less m.target; d_small = divisor-near gt go; a_small = height-near gt go }

  pub upright-cut : t.a.x.0 ≡ t.b.x.0 → Cut (o₁ o t) (o.a.x.0 -ℤ o.b.x.0)
  upright-cut e = record { some = right-some (height t) (o.a.x.0 -ℤ o.b.x.0) (rw (upright-div t o e) some); n_small = share_near gt go }

  pub level-cut : t.a.y.0 ≡ t.b.y.0 → Cut (o₁ o t) (o.b.y.0 -ℤ o.a.y.0)
  level-cut e = record { some = right-some (width t) (o.b.y.0 -ℤ o.a.y.0) (rw (level-div t o e) some); n_small = share_near gt go }

  pub upright-point : t.a.x.0 ≡ t.b.x.0 → cross_point t o ≡ point t.a.x.0 (t.a.y.0 +ℤ quot_z (o₁ o t) (o.a.x.0 -ℤ o.b.x.0))
  unfolding cross_point
  upright-point e =
      let k = o.a.x.0 -ℤ o.b.x.0 in
      let d = upright-div t o e in
      let c : (upright t || level t) ≡ true = rw (holds (upright? t) e) in
      rw (by_cut t (o₁ o t *ℤ width t) (divisor t o) c, by_cut t (o₁ o t *ℤ height t) (divisor t o) c)
      (ap₂ point (none_offset (o₁ o t) t.a.x.0 t.b.x.0 (divisor t o) e)
      (ap (λ z. t.a.y.0 +ℤ z) (rw (← d) (cut_offset (o₁ o t) (height t) k (rw d some)))))

  pub level-point : t.a.y.0 ≡ t.b.y.0 → cross_point t o ≡ point (t.a.x.0 +ℤ quot_z (o₁ o t) (o.b.y.0 -ℤ o.a.y.0)) t.a.y.0
  unfolding cross_point
  level-point e =
      let k = o.b.y.0 -ℤ o.a.y.0 in
      let d = level-div t o e in
      let c : (upright t || level t) ≡ true = is_level t e in
      rw (by_cut t (o₁ o t *ℤ width t) (divisor t o) c, by_cut t (o₁ o t *ℤ height t) (divisor t o) c)
      (ap₂ point (ap (λ z. t.a.x.0 +ℤ z) (rw (← d) (cut_offset (o₁ o t) (width t) k (rw d some))))
      (none_offset (o₁ o t) t.a.y.0 t.b.y.0 (divisor t o) e))

  pub slope_point : t.a.x.0 ≢ t.b.x.0 → t.a.y.0 ≢ t.b.y.0
      → cross_point t o ≡ point (t.a.x.0 +ℤ nearest (o₁ o t *ℤ width t) (divisor t o)) (t.a.y.0 +ℤ nearest (o₁ o t *ℤ height t) (divisor t o))
  unfolding cross_point
  slope_point h k =
      let c : (upright t || level t) ≡ false = rw (fails (upright? t) h, fails (level? t) k) in
      rw (by_nearest t (o₁ o t *ℤ width t) (divisor t o) c, by_nearest t (o₁ o t *ℤ height t) (divisor t o) c)
