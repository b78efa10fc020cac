-- The count of a ray is the same at two points that a straight stretch joins which no edge meets. Scaled by the product of their d the stretch has whole
-- ends, and is one more edge S of weight 0, apart from all others: the sum is the same at both of its ends (`along`), where it is the ray's count.
use Rattle.std.specs.Prelude.{◌≡◌, List, [], ◌∷◌, ℤ, ◌*ℤ◌, ◌<ℤ◌}
use Rattle.whole.specs.Ring.{reads}
use Rattle.whole.proofs.RingLaws.{ring}
use Rattle.whole.specs.Sum.{All}
use Rattle.plane.specs.Scaled.{at, spot}
use Rattle.geom.specs.declared.Point.{Point}
use Rattle.geom.specs.declared.Segment.{Segment}
use Rattle.geom.specs.Plane.{turn, against, Before}
use Rattle.geom.specs.Off.{Off, cross, On}
use Rattle.segm.specs.Balance.{Balanced}
use Rattle.laws.specs.Scale.{scaled}
use Rattle.laws.specs.Level.{bridge}

-- ---- a point off the grid, brought to the scale k
pub grown_cross : (t : Segment) (m : ℤ) (R : Off) → against (scaled (m *ℤ R.d) t) (at m (spot R)) ≡ ((m *ℤ R.d) *ℤ m) *ℤ cross t R
unfolding turn cross
grown_cross t m R = ring (t.a.x.0 ∷ t.a.y.0 ∷ t.b.x.0 ∷ t.b.y.0 ∷ R.X ∷ R.Y ∷ R.d ∷ m ∷ []) (search reads depth 40 fits 50000) tt

-- ---- a point p on the line of t, between its ends by x: a point of t
pub record Through (t : Segment) (p : Point) : Type 0 where
  pub Z : Off
  pub on : On t Z
  pub is_x : Z.X ≡ Z.d *ℤ p.x.0
  pub is_y : Z.Y ≡ Z.d *ℤ p.y.0

-- ---- the stretch from P to Q
abbrev pub stretch : Off → Off → Segment
stretch P Q = bridge (at Q.d (spot P)) (at P.d (spot Q))

-- t has no point of it
abbrev pub Misses : Off → Off → Segment → Type 0
Misses P Q t = (Z : Off) → On (stretch P Q) Z → On (scaled (Q.d *ℤ P.d) t) Z → ⊥

module _ (w : Segment → ℤ) (L : List Segment) (fwd : All (λ t. Before t.a t.b) L) (bal : Balanced w L) (P Q : Off) (far : (Q.d *ℤ P.X) <ℤ (P.d *ℤ Q.X)) (free : All (Misses P Q) L) where
  abbrev p : Point
  p = at Q.d (spot P)
