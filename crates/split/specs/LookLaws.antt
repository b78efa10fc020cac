-- What is true of every look ("Crossing"): each mark names a segment of the list, at a point on the grid that is no end of it; and forward segments of which no
-- two are equal yield no mark exactly if every two are `Apart`: no mark, settled.
use Rattle.std.specs.Prelude.{◌≡◌, ℕ, suc, ◌+◌, ◌<◌, pos}
use mathlib.Core.List.{List, ◌∷◌}
use Rattle.geom.specs.declared.Point.{Point}
use Rattle.geom.specs.declared.Segment.{Segment}
use Rattle.geom.specs.Plane.{GridPoint, Before}
use Rattle.plane.specs.NoEnd.{NoEnd}
use Rattle.split.specs.declared.answer.Mark.{Mark}
use Rattle.split.specs.Look.{mark}

-- the mark cuts a segment of the list, the first of which is number i
pub data Cuts : ℕ → List Segment → Mark → Type 0 where
  here : {i : ℕ} {v : Segment} {L : List Segment} {p : Point} → GridPoint p → NoEnd v p → Cuts i (v ∷ L) (mark i p)
  there : {i : ℕ} {v : Segment} {L : List Segment} {m : Mark} → Cuts (suc i) L m → Cuts i (v ∷ L) m

-- its number is one of the list's
pub record Number (i n : ℕ) (m : Mark) : Type 0 where
  pub k : ℕ
  pub below : k < n
  pub is : m.segment ≡ pos (i + k)

-- ---- no mark, settled

abbrev pub Forward : Segment → Type 0
Forward v = Before v.a v.b
