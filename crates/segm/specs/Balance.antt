-- Balance (refusal 6): at each point the counts of the segments that start there sum to the counts of those that end there.
use Rattle.std.specs.Prelude.{Bool, true, ◌&&◌, List, [], ◌∷◌, ◌≡◌, ℤ}
use Rattle.whole.specs.Sum.{Over}
use Rattle.geom.specs.declared.Point.{Point}
use Rattle.geom.specs.declared.Segment.{Segment}
use Rattle.geom.specs.Plane.{sameZ, same_point, subject, clip, count}

abbrev pub starting : (Segment → ℤ) → Point → List Segment → ℤ
starting w p L = Over w (λ t. same_point p t.a) L

abbrev pub ending : (Segment → ℤ) → Point → List Segment → ℤ
ending w p L = Over w (λ t. same_point p t.b) L

-- the sentence: at every point of the plane
unfoldable pub Balanced : (Segment → ℤ) → List Segment → Type 0
Balanced w L = (p : Point) → starting w p L ≡ ending w p L

-- the test: at every end
unfoldable pub balanced_at : (Segment → ℤ) → List Segment → Point → Bool
balanced_at w L p = sameZ (starting w p L) (ending w p L)

unfoldable pub balanced_over : (Segment → ℤ) → List Segment → List Segment → Bool
balanced_over w L [] = true
balanced_over w L (t ∷ K) = (balanced_at w L t.a && balanced_at w L t.b) && balanced_over w L K

abbrev pub balanced : (Segment → ℤ) → List Segment → Bool
balanced w L = balanced_over w L L

-- for both sides
unfoldable pub closed : List Segment → Bool
closed L = balanced (count subject) L && balanced (count clip) L
