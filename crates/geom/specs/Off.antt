-- Points off the grid ("Points off the grid"): X, Y, d with d over 0 stand for the point X/d, Y/d.
use Rattle.std.specs.Prelude.{◌≡◌, ◌⊎◌, ℤ, pos, ◌-ℤ◌, ◌*ℤ◌, ◌≤ℤ◌, ◌<ℤ◌}
use Rattle.geom.specs.declared.Point.{Point}
use Rattle.geom.specs.declared.Segment.{Segment}

pub record Off : Type 0 where
  pub X : ℤ
  pub Y : ℤ
  pub d : ℤ
  pub over : pos 0 <ℤ d

-- the cross product against the line of v, taken with d times its ends
unfoldable pub cross : Segment → Off → ℤ
cross v P = (v.b.x.0 -ℤ v.a.x.0) *ℤ (P.Y -ℤ P.d *ℤ v.a.y.0) -ℤ (v.b.y.0 -ℤ v.a.y.0) *ℤ (P.X -ℤ P.d *ℤ v.a.x.0)

-- t lies between d times p and d times q, whichever is the lesser
pub data Within (d p q t : ℤ) : Type 0 where
  rising : (d *ℤ p) ≤ℤ t → t ≤ℤ (d *ℤ q) → Within d p q t
  falling : (d *ℤ q) ≤ℤ t → t ≤ℤ (d *ℤ p) → Within d p q t

-- the point lies on v: within d times its bounding box, and the cross product is zero
pub record On (v : Segment) (P : Off) : Type 0 where
  pub wide : Within P.d v.a.x.0 v.b.x.0 P.X
  pub high : Within P.d v.a.y.0 v.b.y.0 P.Y
  pub line : cross v P ≡ pos 0

-- the point is p
pub record Is (P : Off) (p : Point) : Type 0 where
  pub is_x : P.X ≡ P.d *ℤ p.x.0
  pub is_y : P.Y ≡ P.d *ℤ p.y.0

-- the point is an end of v
abbrev pub EndOf : Segment → Off → Type 0
EndOf v P = Is P v.a ⊎ Is P v.b
