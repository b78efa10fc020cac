-- Weights: a point on a segment is a mean of its ends, (u + v) P = d (v a + u b), u, v not under 0 and not both 0.
-- u and v are the offsets from the ends along x, or along y on an upright segment; no later proof splits on upright again.
-- From the weights: where P is (an end, or strictly between by the order of points), and what P on another line says of the turns of a and b.
use Rattle.std.specs.Prelude.{◌≡◌, ℤ, pos, ◌+ℤ◌, ◌-ℤ◌, ◌*ℤ◌, ◌≤ℤ◌, ◌<ℤ◌}
use Rattle.whole.specs.Order.{zz, sub_is}
use Rattle.geom.specs.declared.Segment.{Segment}
use Rattle.geom.specs.Off.{Off, Within, rising, falling}
use Rattle.plane.specs.Scaled.{scale-lt}

-- d (v p + u q)
abbrev pub mean : ℤ → ℤ → ℤ → ℤ → ℤ → ℤ
mean d u v p q = d *ℤ (v *ℤ p +ℤ u *ℤ q)

pub record Weights (e : Segment) (P : Off) : Type 0 where
  pub u : ℤ
  pub v : ℤ
  pub u_low : pos 0 ≤ℤ u
  pub v_low : pos 0 ≤ℤ v
  pub some : pos 0 <ℤ (u +ℤ v)
  pub mean_x : (u +ℤ v) *ℤ P.X ≡ mean P.d u v e.a.x.0 e.b.x.0
  pub mean_y : (u +ℤ v) *ℤ P.Y ≡ mean P.d u v e.a.y.0 e.b.y.0

-- ---- along the leading coordinate s, from p to q; t is the other, from g to h
pub record Shares (p q g h s t d : ℤ) : Type 0 where
  pub u : ℤ
  pub v : ℤ
  pub u_low : pos 0 ≤ℤ u
  pub v_low : pos 0 ≤ℤ v
  pub some : pos 0 <ℤ (u +ℤ v)
  pub lead : (u +ℤ v) *ℤ s ≡ mean d u v p q
  pub rest : (u +ℤ v) *ℤ t ≡ mean d u v g h

module _ (p q g h s t d : ℤ) (over : pos 0 <ℤ d) (grows : p <ℤ q) where
  pub lead_low : Within d p q s → (pos 0 ≤ℤ (s -ℤ d *ℤ p)) × (pos 0 ≤ℤ (d *ℤ q -ℤ s))
  lead_low (rising lo hi) = omega (zz, sub_is s (d *ℤ p), sub_is (d *ℤ q) s)
  lead_low (falling lo hi) = let z : ⊥ = omega (zz, scale-lt d over grows) in absurd z
