-- The middle point, and the distances that say whether it is moved to an end ("Crossing", "Middle point").
use Rattle.std.specs.Prelude.{Bool, cond, ◌||◌, ℕ, ◌+◌, ◌*◌, min, ltb, ℤ, nat_abs, ◌+ℤ◌, ◌-ℤ◌, ◌*ℤ◌}
use Rattle.std.specs.Int.Signed.{quot_z}
use Rattle.geom.specs.declared.Point.{Point}
use Rattle.geom.specs.declared.Segment.{Segment}
use Rattle.geom.specs.Plane.{point, sameZ, upright, against}
use Rattle.plane.specs.Quotients.{nearest}

unfoldable pub level : Segment → Bool
level v = sameZ v.a.y.0 v.b.y.0

-- cut toward zero for an upright or level target, otherwise to nearest, a half away from zero
unfoldable pub quotient : Segment → ℤ → ℤ → ℤ
quotient t n d = cond (upright t || level t) (quot_z n d) (nearest n d)

-- the lines meet at target.a + n / d (target.b - target.a), n and n - d being target's ends against other's line
unfoldable pub cross_point : Segment → Segment → Point
cross_point t o =
    let n = against o t.a in
    let d = n -ℤ against o t.b in
    point (t.a.x.0 +ℤ quotient t (n *ℤ (t.b.x.0 -ℤ t.a.x.0)) d) (t.a.y.0 +ℤ quotient t (n *ℤ (t.b.y.0 -ℤ t.a.y.0)) d)

-- ---- distances

-- the squared distance
unfoldable pub far : Point → Point → ℕ
far p q = nat_abs (p.x.0 -ℤ q.x.0) * nat_abs (p.x.0 -ℤ q.x.0) + nat_abs (p.y.0 -ℤ q.y.0) * nat_abs (p.y.0 -ℤ q.y.0)

-- the nearer end of v, b on a tie
unfoldable pub nearer : Segment → Point → Point
nearer v p = cond (ltb (far v.a p) (far v.b p)) v.a v.b

-- the squared distance to the nearer end
unfoldable pub reach : Segment → Point → ℕ
reach v p = min (far v.a p) (far v.b p)
