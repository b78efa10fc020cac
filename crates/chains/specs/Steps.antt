-- What the steps of splitting one segment render ("Splitting"), over rows of marks in a flat list.
use Rattle.std.specs.Prelude.{Bool, cond, List, [], ◌∷◌, map, ℕ, zero, suc, ◌-◌, ℤ}
use Rattle.whole.specs.Kind.{row_at, rows_from}
use Rattle.geom.specs.declared.Point.{Point}
use Rattle.geom.specs.declared.Segment.{Segment}
use Rattle.geom.specs.Plane.{sameZ}
use Rattle.directions.specs.Forward.{forward}
use Rattle.split.specs.Marks.{marks}

-- the point of mark number i, and the points of k marks from number i on
abbrev pub point_at : List ℤ → ℕ → Point
point_at zs i = (row_at marks zs i).point

abbrev pub points : List ℤ → ℕ → ℕ → List Point
points zs i k = map (λ m. m.point) (rows_from marks zs i k)

-- the piece of v from p to q
abbrev pub piece_of : Segment → Point → Point → Segment
piece_of v p q = forward (record { a = p; b = q; subject = v.subject; clip = v.clip })

-- the pieces of v from p through the points
unfoldable pub pieces_to : Segment → Point → List Point → List Segment
pieces_to v p [] = []
pieces_to v p (q ∷ qs) = piece_of v p q ∷ pieces_to v q qs

-- the last k of the points of a column of so many marks, taken from its start or from its end
unfoldable pub taken : Bool → List ℤ → ℕ → ℕ → List Point
taken back zs size zero = []
taken back zs size (suc k) = point_at zs (cond back k (size - suc k)) ∷ taken back zs size k

-- how many of the points stand in the column of the point p before them
unfoldable pub joined : Point → List Point → ℕ
joined p [] = 0
joined p (q ∷ qs) = cond (sameZ p.x.0 q.x.0) (suc (joined q qs)) 0
