-- The level stretch from an upright edge e to a point P, scaled so that its ends are whole, as one more edge. Whatever has no point of it is apart from it.
-- Whatever comes to e passes over or under all that lies strictly within e, as it does at e's ends (`pierced`).
use Rattle.std.specs.Prelude.{◌≡◌, List, pos, ◌*ℤ◌, ◌≤ℤ◌, ◌<ℤ◌}
use Rattle.whole.specs.Sum.{All}
use Rattle.geom.specs.declared.Point.{Point}
use Rattle.geom.specs.declared.Segment.{Segment}
use Rattle.geom.specs.Plane.{segment}
use Rattle.geom.specs.Off.{Off, On}
use Rattle.plane.specs.Apart.{Apart}

-- ---- the stretch between e and P
pub data Across (e : Segment) (P Z : Off) : Type 0 where
  right : (Z.d *ℤ e.a.x.0) ≤ℤ Z.X → (Z.X *ℤ P.d) ≤ℤ (P.X *ℤ Z.d) → Across e P Z
  left : (P.X *ℤ Z.d) ≤ℤ (Z.X *ℤ P.d) → Z.X ≤ℤ (Z.d *ℤ e.a.x.0) → Across e P Z

-- t has no point of it
abbrev pub Free : Segment → Off → Segment → Type 0
Free e P t = (Z : Off) → On t Z → P.Y *ℤ Z.d ≡ Z.Y *ℤ P.d → Across e P Z → ⊥

-- P is level with e: strictly between its ends by y, and no other edge has a point of the stretch
pub record Level (L : List Segment) (e : Segment) (P : Off) : Type 0 where
  pub low : (P.d *ℤ e.a.y.0) <ℤ P.Y
  pub high : P.Y <ℤ (P.d *ℤ e.b.y.0)
  pub clear : All (λ t. Apart e t → Free e P t) L

-- ---- an edge that comes to e is over or under every point within e, as it is at e's ends
-- the point of e at P's level
abbrev pub onto : Segment → Off → Off
onto e P = record { X = P.d *ℤ e.a.x.0; Y = P.Y; d = P.d; over = P.over }

abbrev pub bridge : Point → Point → Segment
bridge p q = segment p q (pos 0) (pos 0)
