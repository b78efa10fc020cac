-- The count of a ray, as SVG 2 counts for its fill rules: from a point that lies on no edge a ray goes out, and each edge that crosses it counts by the
-- direction in which it crosses. Ours goes to lesser y (up, in a picture whose y runs down); an edge that runs right crosses it from the left
-- and adds its weight, and one that was turned has its weight negated already. An upright edge does not cross it; an end counts with the edge's left.
use Rattle.std.specs.Prelude.{◌≡◌, refl, List, Bool, ◌&&◌, ℤ, pos, ◌*ℤ◌}
use Rattle.std.specs.Int.Signed.{le_z, lt_z}
use Rattle.whole.specs.Sum.{Sum, Over}
use Rattle.geom.specs.declared.Segment.{Segment}
use Rattle.geom.specs.Plane.{subject, clip, count}
use Rattle.geom.specs.Off.{Off, cross}
use Rattle.laws.specs.Edges.{running, standing, edges}

-- X/d lies in t's range: t.a.x <= X/d < t.b.x
unfoldable pub alive_at : Off → Segment → Bool
alive_at P t = le_z (P.d *ℤ t.a.x.0) P.X && lt_z P.X (P.d *ℤ t.b.x.0)

-- and t passes strictly under P
unfoldable pub crossed : Off → Segment → Bool
crossed P t = alive_at P t && lt_z (pos 0) (cross t P)

unfoldable pub ray : (Segment → ℤ) → List Segment → Off → ℤ
ray w L P = Over w (crossed P) L

-- ---- in the triangle of `Edges`, at (3, 7/2); and on an edge, at (1, 4), where the count is its bottom
in_triangle : ray (count clip) edges (record { X = pos 6; Y = pos 7; d = pos 2; over = record { lt = tt } }) ≡ pos 2
unfolding running standing ray Over Sum crossed alive_at cross
in_triangle = refl

on_an_edge : ray (count subject) edges (record { X = pos 1; Y = pos 4; d = pos 1; over = record { lt = tt } }) ≡ pos 1
unfolding running standing ray Over Sum crossed alive_at cross
on_an_edge = refl
