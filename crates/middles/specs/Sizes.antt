-- How large the numbers of a middle crossing are ("Crossing": the products stay below 2^94 and need two limbs).
use Rattle.std.specs.Prelude.{◌≡◌, ℕ, ◌*◌, ◌<◌, ◌≤◌, ◌^◌, ℤ, nat_abs, ◌-ℤ◌, ◌*ℤ◌}
use Rattle.std.proofs.Common.{mul-le-mul, arith}
use Rattle.whole.specs.Ring.{reads}
use Rattle.whole.proofs.RingLaws.{ring}
use Rattle.whole.specs.Fit.{abs-sub, abs-mul-lt}
use Rattle.geom.specs.declared.Point.{Point}
use Rattle.geom.specs.declared.Segment.{Segment}
use Rattle.geom.specs.Plane.{GridPoint, GridSegment, turn}
use Rattle.geom.proofs.Bounds.{gap_near, area_near, turn_near}
use Rattle.plane.specs.Apart.{o₁, o₂}
use Rattle.plane.specs.Turns.{coords}
use Rattle.middles.specs.Point.{far}

-- target's width and height
abbrev pub width : Segment → ℤ
width t = t.b.x.0 -ℤ t.a.x.0

abbrev pub height : Segment → ℤ
height t = t.b.y.0 -ℤ t.a.y.0

-- what the offsets are divided by: a difference of two areas, as a turn is
abbrev pub divisor : Segment → Segment → ℤ
divisor t o = o₁ o t -ℤ o₂ o t

divisor_is : (t o : Segment) → divisor t o ≡ height t *ℤ (o.a.x.0 -ℤ o.b.x.0) -ℤ width t *ℤ (o.a.y.0 -ℤ o.b.y.0)
unfolding turn
divisor_is t o = ring (coords t o) (search reads depth 20 fits 5000) tt

module _ {t o : Segment} (gt : GridSegment t) (go : GridSegment o) where
  pub share_near : nat_abs (o₁ o t) < 2 ^ 63
  share_near = turn_near go.a go.b gt.a

  pub divisor-near : nat_abs (divisor t o) < 2 ^ 63
  divisor-near =
      rw (divisor_is t o)
      (omega (arith, abs-sub (height t *ℤ (o.a.x.0 -ℤ o.b.x.0)) (width t *ℤ (o.a.y.0 -ℤ o.b.y.0)), area_near gt.b.y gt.a.y go.a.x go.b.x, area_near gt.b.x gt.a.x go.a.y go.b.y))

  pub width-near : nat_abs (width t) < 2 ^ 31
  width-near = gap_near gt.b.x gt.a.x

  pub height-near : nat_abs (height t) < 2 ^ 31
  height-near = gap_near gt.b.y gt.a.y

  -- the two products that are divided
  pub products_near : (nat_abs (o₁ o t *ℤ width t) < 2 ^ 94) × (nat_abs (o₁ o t *ℤ height t) < 2 ^ 94)
  products_near = (abs-mul-lt (o₁ o t) (width t) share_near width-near, abs-mul-lt (o₁ o t) (height t) share_near height-near)

-- a squared distance is at most 2 (2^31 - 1)²
pub square_near : (n : ℕ) → n < 2 ^ 31 → n * n ≤ 4611686014132420609
square_near n h = mul-le-mul {n₂ = 2147483647} {m₂ = 2147483647} (omega arith) (omega arith)

pub far-near : {p q : Point} → GridPoint p → GridPoint q → far p q < 2 ^ 63
unfolding far
far-near {p} {q} gp gq =
    omega (arith, square_near (nat_abs (p.x.0 -ℤ q.x.0)) (gap_near gp.x gq.x), square_near (nat_abs (p.y.0 -ℤ q.y.0)) (gap_near gp.y gq.y))
