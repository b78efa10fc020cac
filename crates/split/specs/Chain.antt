-- Splitting at the marks ("Splitting").
use Rattle.std.specs.Prelude.{cond, List, [], ◌∷◌, ◌++◌, map, reverse, ℕ, suc, ℤ, pos}
use Rattle.std.specs.Int.Signed.{lt_z}
use Rattle.whole.specs.Sum.{keep}
use Rattle.geom.specs.declared.Point.{Point}
use Rattle.geom.specs.declared.Segment.{Segment}
use Rattle.geom.specs.Plane.{sameZ}
use Rattle.directions.specs.Forward.{forward}
use Rattle.split.specs.declared.answer.Mark.{Mark}

-- the points of the marks of segment i, in the order of the list
unfoldable pub points_of : ℕ → List Mark → List Point
points_of i ms = map (λ m. m.point) (keep (λ m. sameZ m.segment (pos i)) ms)

-- points in groups of equal x
unfoldable pub add_to : Point → List (List Point) → List (List Point)
add_to p [] = (p ∷ []) ∷ []
add_to p ([] ∷ gs) = (p ∷ []) ∷ gs
add_to p ((q ∷ g) ∷ gs) = cond (sameZ p.x.0 q.x.0) ((p ∷ q ∷ g) ∷ gs) ((p ∷ []) ∷ (q ∷ g) ∷ gs)

unfoldable pub columns : List Point → List (List Point)
columns [] = []
columns (p ∷ ps) = add_to p (columns ps)

-- the y of the point after: the next mark in the sorted run, or b
unfoldable pub next_y : Point → List (List Point) → ℤ
next_y b [] = b.y.0
next_y b ([] ∷ gs) = b.y.0
next_y b ((q ∷ g) ∷ gs) = q.y.0

unfoldable pub last_of : Point → List Point → Point
last_of p [] = p
last_of p (q ∷ qs) = last_of q qs

-- a group is reversed if the y of the point before it, p, exceeds the y of the point after
unfoldable pub chain_from : Point → Point → List (List Point) → List Point
chain_from p b [] = []
chain_from p b (g ∷ gs) =
    let h = cond (lt_z (next_y b gs) p.y.0) (reverse g) g in
    h ++ chain_from (last_of p h) b gs

-- the marks of v, sorted by x and y, in the order in which they cut it
abbrev pub chain : Segment → List Point → List Point
chain v ps = chain_from v.a v.b (columns ps)

-- the chain p, ps, b as pieces with the counts of v, each turned if needed
unfoldable pub pieces_from : Segment → Point → List Point → List Segment
pieces_from v p [] = forward (record { a = p; b = v.b; subject = v.subject; clip = v.clip }) ∷ []
pieces_from v p (q ∷ ps) = forward (record { a = p; b = q; subject = v.subject; clip = v.clip }) ∷ pieces_from v q ps

-- segment number i and those after it, each cut at its marks
unfoldable pub split_from : ℕ → List Mark → List Segment → List Segment
split_from i ms [] = []
split_from i ms (v ∷ L) = pieces_from v v.a (chain v (points_of i ms)) ++ split_from (suc i) ms L

abbrev pub split : List Mark → List Segment → List Segment
split ms L = split_from 0 ms L
