-- The column of a point p: right of it, just under p, run the edges that run left of it there, less the upright ones that
-- reach p from below or pass it. An edge through the column counts on both sides; one that begins or ends in it begins or
-- ends in the region { q : q.x = p.x, q.y < p.y }, whose first and second ends weigh the same.
use Rattle.std.specs.Prelude.{List, Bool, ◌&&◌, ℤ, pos}
use Rattle.std.specs.Int.Signed.{le_z, lt_z}
use Rattle.whole.specs.Sum.{Over}
use Rattle.geom.specs.declared.Point.{Point}
use Rattle.geom.specs.declared.Segment.{Segment}
use Rattle.geom.specs.Plane.{against, sameZ}
use Rattle.edges.specs.Below.{alive}
use Rattle.laws.specs.Sides.{reaches}

-- t passes strictly under p, on the right and on the left of its column
unfoldable pub under-right : Point → Segment → Bool
under-right p t = alive p.x.0 t && lt_z (pos 0) (against t p)

unfoldable pub under_left : Point → Segment → Bool
under_left p t = reaches p.x.0 t && lt_z (pos 0) (against t p)

-- the column under p
unfoldable pub column : Point → Point → Bool
column p q = sameZ q.x.0 p.x.0 && lt_z q.y.0 p.y.0

-- t is upright and comes to p, or past it
unfoldable pub upto : Point → Segment → Bool
upto p t = (sameZ t.a.x.0 p.x.0 && sameZ t.b.x.0 p.x.0) && (lt_z t.a.y.0 p.y.0 && le_z p.y.0 t.b.y.0)

-- ---- the sums
unfoldable pub base_right : (Segment → ℤ) → List Segment → Point → ℤ
base_right w L p = Over w (under-right p) L
