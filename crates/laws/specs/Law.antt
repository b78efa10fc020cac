-- The sign law: for any g the signs g(top) - g(bottom) are balanced wherever the weights are.
-- At p let B be what runs strictly under p, on the right. An edge that starts at p has for bottom B and the counts of those
-- that start there below it; one that ends at p has for bottom B and the counts of those that end there below it (read at
-- its right end, `both_ends`, and over the column, `columns`; an upright one at once). Both families telescope, from B
-- to B with all that starts, or ends, at p: the same.
use Rattle.std.specs.Prelude.{List, ℤ, ◌-ℤ◌}
use Rattle.geom.specs.declared.Segment.{Segment}
use Rattle.geom.specs.Plane.{count, subject, clip}
use Rattle.scan.specs.Masks.{bottom, top}

-- ---- signs, of any number of weights: what g makes of the top, less what it makes of the bottom
unfoldable pub sign : {I : Type 0} → ((I → ℤ) → ℤ) → (I → Segment → ℤ) → List Segment → Segment → ℤ
sign g w L e = g (λ i. top (w i) L e) -ℤ g (λ i. bottom (w i) L e)

-- the two counts, under any rule r of the two sums
unfoldable pub sign_of_sides : (ℤ → ℤ → ℤ) → List Segment → Segment → ℤ
sign_of_sides r L e = r (top (count subject) L e) (top (count clip) L e) -ℤ r (bottom (count subject) L e) (bottom (count clip) L e)
