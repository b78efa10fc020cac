-- The sums of what lies below an edge, and the bytes ("Masks"): direct sums over the whole list, no sweep.
use Rattle.std.specs.Prelude.{Bool, false, ◌||◌, List, [], ◌∷◌, map, ℕ, ◌+◌, ◌*◌, ltb, length, ℤ, ◌+ℤ◌}
use Rattle.whole.specs.Sum.{Over, keep}
use Rattle.geom.specs.declared.Segment.{Segment}
use Rattle.geom.specs.Plane.{subject, clip, count}
use Rattle.fills.specs.Inside.{inside}
use Rattle.rules.specs.Keep.{flag, kept}
use Rattle.edges.specs.Below.{below, live}

-- the bottom of e; for an upright edge its right side
unfoldable pub bottom : (Segment → ℤ) → List Segment → Segment → ℤ
bottom w L e = Over w (λ t. below t e) L

-- the top of e: bottom and its own count; for an upright edge its left side
unfoldable pub top : (Segment → ℤ) → List Segment → Segment → ℤ
top w L e = bottom w L e +ℤ w e

-- ---- the bytes

-- subject top 1, subject bottom 2, clip top 4, clip bottom 8
unfoldable pub mask_of : ℕ → List Segment → Segment → ℕ
mask_of fill L e =
    flag (inside fill (top (count subject) L e))
    + 2 * flag (inside fill (bottom (count subject) L e))
    + 4 * flag (inside fill (top (count clip) L e))
    + 8 * flag (inside fill (bottom (count clip) L e))

-- a kept edge's byte has 16 added
unfoldable pub byte_of : ℕ → ℕ → List Segment → Segment → ℕ
byte_of fill rule L e = let m = mask_of fill L e in m + 16 * flag (kept rule m)

abbrev pub bytes : ℕ → ℕ → List Segment → List ℕ
bytes fill rule L = map (byte_of fill rule L) L

-- ---- refusal 11: after the node of one of K, more segments of L are live than there is room for

unfoldable pub crowded_from : ℕ → List Segment → List Segment → Bool
crowded_from room L [] = false
crowded_from room L (e ∷ K) = ltb room (length (keep (live e.a) L)) || crowded_from room L K

abbrev pub crowded : ℕ → List Segment → Bool
crowded room L = crowded_from room L L
