-- Rounding. q is near n/d if it is less than 1 from it: then a fraction between two whole numbers stays between them when rounded.
-- Cut toward zero, and to nearest with a half away from zero, are both near, and each rule settles its q.
use Rattle.std.specs.Prelude.{◌≡◌, [], ◌∷◌, ℤ, pos, neg_ℤ, ◌+ℤ◌, ◌*ℤ◌, ◌≤ℤ◌, ◌<ℤ◌}
use Rattle.whole.specs.Order.{zz, add_is}
use Rattle.whole.specs.Ring.{reads}
use Rattle.whole.proofs.RingLaws.{ring}
use Rattle.plane.specs.Scaled.{unscale_lt}

-- ---- q is less than 1 from n/d
pub record Near (n d q : ℤ) : Type 0 where
  pub low : n <ℤ (d *ℤ q +ℤ d)
  pub high : (d *ℤ q) <ℤ (n +ℤ d)

-- n/d cut toward zero
pub record Cut (n d q : ℤ) : Type 0 where
  pub from_over : pos 0 ≤ℤ n → ((d *ℤ q) ≤ℤ n) × (n <ℤ (d *ℤ q +ℤ d))
  pub from_under : n <ℤ pos 0 → (n ≤ℤ (d *ℤ q)) × ((d *ℤ q) <ℤ (n +ℤ d))

-- n/d to nearest, a half away from zero: 2n - d < 2dq ≤ 2n + d from 0 up, 2n - d ≤ 2dq < 2n + d under 0
pub record Nearest (n d q : ℤ) : Type 0 where
  pub from_over : pos 0 ≤ℤ n → ((pos 2 *ℤ n) <ℤ (pos 2 *ℤ (d *ℤ q) +ℤ d)) × ((pos 2 *ℤ (d *ℤ q)) ≤ℤ (pos 2 *ℤ n +ℤ d))
  pub from_under : n <ℤ pos 0 → ((pos 2 *ℤ n) ≤ℤ (pos 2 *ℤ (d *ℤ q) +ℤ d)) × ((pos 2 *ℤ (d *ℤ q)) <ℤ (pos 2 *ℤ n +ℤ d))

-- ---- between two whole numbers
next : (d m : ℤ) → d *ℤ (m +ℤ pos 1) ≡ d *ℤ m +ℤ d
next d m = ring (d ∷ m ∷ []) (search reads depth 20 fits 5000) tt

-- d m < d q + d gives m ≤ q
pub below : (d m q : ℤ) → pos 0 <ℤ d → (d *ℤ m) <ℤ (d *ℤ q +ℤ d) → m ≤ℤ q
below d m q h k = let l = unscale_lt {a = m} {b = q +ℤ pos 1} d h (omega (zz, next d q)) in omega (zz, add_is q (pos 1))

-- ---- n/k less than 1 from q, whichever sign k has
pub data Rounded (n k q : ℤ) : Type 0 where
  over : pos 0 <ℤ k → Near n k q → Rounded n k q
  under : k <ℤ pos 0 → Near (neg_ℤ n) (neg_ℤ k) q → Rounded n k q
