-- What the grid is for: differences stay below 2^31, products of two of them below 2^62, and so the turn of three points fits 64 bits.
use Rattle.std.specs.Prelude.{◌<◌, ◌^◌, ℤ, nat_abs, ◌-ℤ◌, ◌*ℤ◌}
use Rattle.std.proofs.Common.{arith, SFits}
use Rattle.std.specs.Int.{w32, w64}
use Rattle.whole.specs.Fit.{abs-sub, abs-mul-lt, apart, fits-abs}
use Rattle.geom.specs.declared.Point.{Point}
use Rattle.geom.specs.Plane.{OnGrid, GridPoint, turn}

pub grid-fits : {z : ℤ} → OnGrid z → SFits w32 z
grid-fits h = record { sfits = omega (arith, h.near) }

module _ {a b : ℤ} (ha : OnGrid a) (hb : OnGrid b) where
  pub gap_near : nat_abs (a -ℤ b) < 2 ^ 31
  gap_near = apart (2 ^ 30) a b ha.near hb.near

  pub gap_fits : SFits w64 (a -ℤ b)
  gap_fits = fits-abs w64 (a -ℤ b) (omega (arith, gap_near))

module _ {a b c d : ℤ} (ha : OnGrid a) (hb : OnGrid b) (hc : OnGrid c) (hd : OnGrid d) where
  pub area_near : nat_abs ((a -ℤ b) *ℤ (c -ℤ d)) < 2 ^ 62
  area_near = abs-mul-lt (a -ℤ b) (c -ℤ d) (gap_near ha hb) (gap_near hc hd)

  pub area_fits : SFits w64 ((a -ℤ b) *ℤ (c -ℤ d))
  area_fits = fits-abs w64 ((a -ℤ b) *ℤ (c -ℤ d)) (omega (arith, area_near))

module _ {o p q : Point} (ho : GridPoint o) (hp : GridPoint p) (hq : GridPoint q) where
  pub turn_near : nat_abs (turn o p q) < 2 ^ 63
  unfolding turn
  turn_near =
      omega (arith, abs-sub ((p.x.0 -ℤ o.x.0) *ℤ (q.y.0 -ℤ o.y.0)) ((p.y.0 -ℤ o.y.0) *ℤ (q.x.0 -ℤ o.x.0)), area_near hp.x ho.x hq.y ho.y, area_near hp.y ho.y hq.x ho.x)

  pub turn-fits : SFits w64 (turn o p q)
  turn-fits = fits-abs w64 (turn o p q) turn_near
