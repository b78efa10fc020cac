-- Rays beside an edge e that is not upright, anywhere along it: where no other edge meets the upright stretch between e and P, the ray's count at P is the
-- top of e if P lies over e, and its bottom if P lies under e. At the foot Q of P on e the count is the bottom (`anywhere`). P and Q have the
-- same edges in their column, and their rays differ in those between them: in e alone, or in none.
use Rattle.std.specs.Prelude.{◌≡◌, List, ◌*ℤ◌, ◌≤ℤ◌, ◌<ℤ◌}
use Rattle.std.proofs.Math.IntN.{pos}
use Rattle.whole.specs.Sum.{All}
use Rattle.geom.specs.declared.Segment.{Segment}
use Rattle.geom.specs.Off.{Off, cross, On}
use Rattle.plane.specs.Apart.{Apart}

-- ---- the stretch between e and P
pub data Between (e : Segment) (P Z : Off) : Type 0 where
  over : pos 0 ≤ℤ cross e Z → (Z.Y *ℤ P.d) ≤ℤ (P.Y *ℤ Z.d) → Between e P Z
  under : cross e Z ≤ℤ pos 0 → (P.Y *ℤ Z.d) ≤ℤ (Z.Y *ℤ P.d) → Between e P Z

-- P is beside e: strictly between its ends by x, and no other edge has a point of the stretch in P's column
pub record Beside (L : List Segment) (e : Segment) (P : Off) : Type 0 where
  pub past : (P.d *ℤ e.a.x.0) <ℤ P.X
  pub short : P.X <ℤ (P.d *ℤ e.b.x.0)
  pub clear : All (λ t. Apart e t → (Z : Off) → On t Z → P.X *ℤ Z.d ≡ Z.X *ℤ P.d → Between e P Z → ⊥) L
