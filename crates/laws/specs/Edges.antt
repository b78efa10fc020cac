-- A list that meets every hypothesis, with the sums of it that the definitions give: document 01's two squares, and in them a triangle of both areas. Five
-- edges meet at (2, 4), six stand upright, some carry both counts.
use Rattle.std.specs.Prelude.{◌≡◌, refl, List, [], ◌∷◌, ◌++◌, map, ℕ, ℤ, pos, negsuc}
use Rattle.whole.specs.Sum.{Sum, Over}
use Rattle.geom.specs.declared.Segment.{Segment}
use Rattle.geom.specs.Plane.{point, segment, subject, clip, count, upright, turn}
use Rattle.edges.specs.Below.{alive, lean, lower, under, below}
use Rattle.scan.specs.Masks.{bottom, top}

abbrev edge : ℕ → ℕ → ℕ → ℕ → ℤ → ℤ → Segment
edge ax ay bx «by» s c = segment (point (pos ax) (pos ay)) (point (pos bx) (pos «by»)) s c

unfoldable pub running : List Segment
running =
    edge 0 0 4 0 (pos 1) (pos 0) ∷ edge 0 4 2 4 (negsuc 0) (pos 0) ∷ edge 2 2 4 2 (pos 0) (pos 1) ∷ edge 2 4 3 3 (pos 1) (pos 1)
    ∷ edge 2 4 4 4 (negsuc 1) (negsuc 0) ∷ edge 2 6 6 6 (pos 0) (negsuc 0) ∷ edge 3 3 4 4 (pos 1) (pos 1) ∷ edge 4 2 6 2 (pos 0) (pos 1) ∷ []

unfoldable pub standing : List Segment
standing =
    edge 0 0 0 4 (negsuc 0) (pos 0) ∷ edge 2 2 2 4 (pos 0) (negsuc 0) ∷ edge 2 4 2 6 (pos 0) (negsuc 0)
    ∷ edge 4 0 4 2 (pos 1) (pos 0) ∷ edge 4 2 4 4 (pos 1) (pos 0) ∷ edge 6 2 6 6 (pos 0) (pos 1) ∷ []

abbrev pub edges : List Segment
edges = running ++ standing

subject_bottoms : map (bottom (count subject) edges) running ≡ pos 0 ∷ pos 1 ∷ pos 1 ∷ pos 1 ∷ pos 2 ∷ pos 0 ∷ pos 1 ∷ pos 0 ∷ []
unfolding running standing bottom Over Sum below alive under upright lower turn lean
subject_bottoms = refl

clip_bottoms : map (bottom (count clip) edges) running ≡ pos 0 ∷ pos 0 ∷ pos 0 ∷ pos 1 ∷ pos 2 ∷ pos 1 ∷ pos 1 ∷ pos 0 ∷ []
unfolding running standing bottom Over Sum below alive under upright lower turn lean
clip_bottoms = refl

clip_tops : map (top (count clip) edges) standing ≡ pos 0 ∷ pos 0 ∷ pos 0 ∷ pos 0 ∷ pos 1 ∷ pos 1 ∷ []
unfolding running standing top bottom Over Sum below alive under upright lower turn lean
clip_tops = refl
