-- The laws of the turn of three points, and of the four turns of two segments. All are identities, by `ring`.
use Rattle.std.specs.Prelude.{◌≡◌, List, [], ◌∷◌, ℤ, pos, ◌+ℤ◌}
use Rattle.whole.specs.Ring.{reads}
use Rattle.whole.proofs.RingLaws.{ring}
use Rattle.geom.specs.declared.Point.{Point}
use Rattle.geom.specs.declared.Segment.{Segment}
use Rattle.geom.specs.Plane.{turn}
use Rattle.geom.specs.Off.{Off}
use Rattle.plane.specs.Apart.{o₁, o₂}

-- ---- a point of the grid as a point off it: its cross product is its turn
abbrev pub grid : Point → Off
grid q = record { X = q.x.0; Y = q.y.0; d = pos 1; over = record { lt = tt } }

-- ---- two segments
-- their coordinates, for ring
abbrev pub coords : Segment → Segment → List ℤ
coords e f = e.a.x.0 ∷ e.a.y.0 ∷ e.b.x.0 ∷ e.b.y.0 ∷ f.a.x.0 ∷ f.a.y.0 ∷ f.b.x.0 ∷ f.b.y.0 ∷ []

pub four_turns : (e f : Segment) → o₁ f e +ℤ o₁ e f ≡ o₂ f e +ℤ o₂ e f
unfolding turn
four_turns e f = ring (coords e f) (search reads depth 20 fits 5000) tt
