-- Which edges are live at a node, and which lie below an edge ("Masks"; heights by cross products, "Points off the grid").
use Rattle.std.specs.Prelude.{Bool, true, not, cond, ◌&&◌, ◌||◌, ℤ, pos, ◌-ℤ◌, ◌*ℤ◌}
use Rattle.std.specs.Int.Signed.{le_z, lt_z}
use Rattle.std.specs.Ordering.{int_cmp}
use Rattle.std.specs.declared.cmp.Ordering.{Ordering}
use Rattle.geom.specs.declared.Point.{Point}
use Rattle.geom.specs.declared.Segment.{Segment}
use Rattle.geom.specs.Plane.{before, sameZ, upright, against}

-- t is not upright and x lies in its range: t.a.x <= x < t.b.x
unfoldable pub alive : ℤ → Segment → Bool
alive x t = le_z t.a.x.0 x && lt_z x t.b.x.0

-- over 0 where t has the lesser slope, of two that run right
unfoldable pub lean : Segment → Segment → ℤ
lean t e = ((t.b.x.0 -ℤ t.a.x.0) *ℤ (e.b.y.0 -ℤ e.a.y.0)) -ℤ ((t.b.y.0 -ℤ t.a.y.0) *ℤ (e.b.x.0 -ℤ e.a.x.0))

-- h over 0, or h zero and s over 0
unfoldable pub lower : ℤ → ℤ → Bool
lower h s = lt_z (pos 0) h || (sameZ h (pos 0) && lt_z (pos 0) s)

-- t's height at e's a.x is under a.y, or equal with the lesser slope; for an upright e: at most a.y
unfoldable pub under : Segment → Segment → Bool
under t e = cond (upright e) (le_z (pos 0) (against t e.a)) (lower (against t e.a) (lean t e))

-- t is one of those that are added up at the bottom of e
unfoldable pub below : Segment → Segment → Bool
below t e = alive e.a.x.0 t && under t e

-- live after a node at p: a at p or before it, and b.x over p.x (so it is not upright)
unfoldable pub live : Point → Segment → Bool
live p t = not (before p t.a) && lt_z p.x.0 t.b.x.0

-- ---- by turns

-- whether p lies over t's line
abbrev pub over : Segment → Point → Bool
over t p = lt_z (pos 0) (against t p)

-- and whether on it
abbrev pub level : Segment → Point → Bool
level t p = sameZ (against t p) (pos 0)

-- both at once: how the turn compares with 0
abbrev pub height_at : Segment → Point → Ordering
height_at t p = int_cmp (against t p) (pos 0)

-- whether t lies under e, where e.a lies on t's line
abbrev pub under_at : Segment → Segment → Bool
under_at t e = cond (upright e) true (lt_z (pos 0) (against t e.b))
