-- The order of points is kept by a factor over 0: so a point off the grid, X, Y, d, stands in order against d times a point of the grid.
-- A weighted step: w q = w p + k (s - r) with w, k over 0 and r before s puts p before q.
use Rattle.std.specs.Prelude.{◌≡◌, [], ◌∷◌, ℤ, pos, ◌+ℤ◌, ◌-ℤ◌, ◌*ℤ◌, ◌≤ℤ◌, ◌<ℤ◌}
use Rattle.std.proofs.Common.{sym, ◌∙◌, ap}
use Rattle.std.proofs.Math.IntN.{*ℤ_comm}
use Rattle.whole.specs.Order.{zz, add_is, sub_is}
use Rattle.whole.specs.Ring.{reads}
use Rattle.whole.proofs.RingLaws.{ring}
use Rattle.whole.proofs.SignLaws.{mul_pos, mul_mono, mul_mono_lt, cancel_lt, cancel_le}
use Rattle.geom.specs.declared.Point.{Point}
use Rattle.geom.specs.Plane.{point, Before, by_x, by_y}
use Rattle.geom.specs.Off.{Off, Is}
use Rattle.geom.specs.Order.{point-eq}

-- ---- a factor on the left
pub scale-lt : {a b : ℤ} (c : ℤ) → pos 0 <ℤ c → a <ℤ b → (c *ℤ a) <ℤ (c *ℤ b)
scale-lt {a} {b} c p h = rw (*ℤ_comm c a, *ℤ_comm c b) (mul_mono_lt c p h)

pub scale-le : {a b : ℤ} (c : ℤ) → pos 0 ≤ℤ c → a ≤ℤ b → (c *ℤ a) ≤ℤ (c *ℤ b)
scale-le {a} {b} c p h = rw (*ℤ_comm c a, *ℤ_comm c b) (mul_mono c p h)

pub unscale_lt : {a b : ℤ} (c : ℤ) → pos 0 <ℤ c → (c *ℤ a) <ℤ (c *ℤ b) → a <ℤ b
unscale_lt {a} {b} c p h = cancel_lt c p (rw (*ℤ_comm c a, *ℤ_comm c b) at h)

pub unscale_le : {a b : ℤ} (c : ℤ) → pos 0 <ℤ c → (c *ℤ a) ≤ℤ (c *ℤ b) → a ≤ℤ b
unscale_le {a} {b} c p h = cancel_le c p (rw (*ℤ_comm c a, *ℤ_comm c b) at h)

pub unscale : {a b : ℤ} (c : ℤ) → pos 0 <ℤ c → c *ℤ a ≡ c *ℤ b → a ≡ b
unscale {a} {b} c p h = omega (zz, unscale_le {a = a} {b = b} c p (omega zz), unscale_le {a = b} {b = a} c p (omega zz))

-- ---- scaled
abbrev pub at : ℤ → Point → Point
at d p = point (d *ℤ p.x.0) (d *ℤ p.y.0)

abbrev pub spot : Off → Point
spot P = point P.X P.Y

pub is_of : {P : Off} {p : Point} → spot P ≡ at P.d p → Is P p
is_of e = record { is_x = ap (λ (t : Point). t.x.0) e; is_y = ap (λ (t : Point). t.y.0) e }

pub of_is : {P : Off} {p : Point} → Is P p → spot P ≡ at P.d p
of_is h = point-eq h.is_x h.is_y

pub before_at : {p q : Point} (d : ℤ) → pos 0 <ℤ d → Before p q → Before (at d p) (at d q)
before_at d h (by_x k) = by_x (scale-lt d h k)
before_at d h (by_y e k) = by_y (ap (λ t. d *ℤ t) e) (scale-lt d h k)

pub at_before : {p q : Point} (d : ℤ) → pos 0 <ℤ d → Before (at d p) (at d q) → Before p q
at_before {p} {q} d h (by_x k) = by_x (unscale_lt d h k)
at_before {p} {q} d h (by_y e k) = by_y (unscale d h e) (unscale_lt d h k)

-- ---- a weighted step
module _ (w k : ℤ) (wp : pos 0 <ℤ w) where
  step-lt : (p q r s : ℤ) → pos 0 <ℤ k → w *ℤ q ≡ w *ℤ p +ℤ k *ℤ (s -ℤ r) → r <ℤ s → p <ℤ q
  step-lt p q r s kp e h = unscale_lt w wp (omega (zz, add_is (w *ℤ p) (k *ℤ (s -ℤ r)), mul_pos {a = k} {b = s -ℤ r} kp (omega (zz, sub_is s r))))

  step-eq : (p q r : ℤ) → w *ℤ q ≡ w *ℤ p +ℤ k *ℤ (r -ℤ r) → p ≡ q
  step-eq p q r e = unscale w wp (sym (e ∙ none))
    where
      none : w *ℤ p +ℤ k *ℤ (r -ℤ r) ≡ w *ℤ p
      none = ring (w ∷ p ∷ k ∷ r ∷ []) (search reads depth 20 fits 5000) tt

  pub step : (p q r s : Point) → pos 0 <ℤ k → w *ℤ q.x.0 ≡ w *ℤ p.x.0 +ℤ k *ℤ (s.x.0 -ℤ r.x.0) → w *ℤ q.y.0 ≡ w *ℤ p.y.0 +ℤ k *ℤ (s.y.0 -ℤ r.y.0) → Before r s → Before p q
  step p q r s kp ex ey (by_x h) = by_x (step-lt p.x.0 q.x.0 r.x.0 s.x.0 kp ex h)
  step p q r s kp ex ey (by_y e h) = by_y (step-eq p.x.0 q.x.0 r.x.0 (ex ∙ ap (λ t. w *ℤ p.x.0 +ℤ k *ℤ (t -ℤ r.x.0)) (sym e))) (step-lt p.y.0 q.y.0 r.y.0 s.y.0 kp ey h)
