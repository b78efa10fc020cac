-- The sums that Req 13 compares with the bottom and the top of an edge e: those counted just left of its right end; and, if e is upright, on its left side.
use Rattle.std.specs.Prelude.{◌≡◌, refl, List, [], ◌∷◌, map, Bool, ◌&&◌, ℤ, pos}
use Rattle.std.specs.Int.Signed.{le_z, lt_z}
use Rattle.whole.specs.Sum.{Sum, Over}
use Rattle.geom.specs.declared.Segment.{Segment}
use Rattle.geom.specs.Plane.{against, clip, count, turn}
use Rattle.edges.specs.Below.{lean, lower}
use Rattle.laws.specs.Edges.{running, standing, edges}

-- t is not upright and runs just left of x: t.a.x < x <= t.b.x
unfoldable pub reaches : ℤ → Segment → Bool
reaches x t = lt_z t.a.x.0 x && le_z x t.b.x.0

-- just left of e.b t is below e: under e.b, or through it with the greater slope
unfoldable pub below_end : Segment → Segment → Bool
below_end t e = reaches e.b.x.0 t && lower (against t e.b) (lean e t)

unfoldable pub bottom-end : (Segment → ℤ) → List Segment → Segment → ℤ
bottom-end w L e = Over w (λ t. below_end t e) L

-- just left of an upright e t is below it: its height is at most e.a.y
unfoldable pub below_left : Segment → Segment → Bool
below_left t e = reaches e.a.x.0 t && le_z (pos 0) (against t e.a)

unfoldable pub left_side : (Segment → ℤ) → List Segment → Segment → ℤ
left_side w L e = Over w (λ t. below_left t e) L

-- ---- the bottoms and the tops of `Edges` again
clip-ends : map (bottom-end (count clip) edges) running ≡ pos 0 ∷ pos 0 ∷ pos 0 ∷ pos 1 ∷ pos 2 ∷ pos 1 ∷ pos 1 ∷ pos 0 ∷ []
unfolding running standing bottom-end Over Sum below_end reaches lower turn lean
clip-ends = refl

clip-left_sides : map (left_side (count clip) edges) standing ≡ pos 0 ∷ pos 0 ∷ pos 0 ∷ pos 0 ∷ pos 1 ∷ pos 1 ∷ []
unfolding running standing left_side Over Sum below_left reaches turn
clip-left_sides = refl
