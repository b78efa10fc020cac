-- Document 01's worked cases ("Crossings and runs worked by hand"), computed on the definitions: each case marked there, and the printed run whole.
use Rattle.std.specs.Prelude.{◌≡◌, refl, true, false, List, [], ◌∷◌, ◌++◌, ℕ, ◌+◌, ◌*◌, ℤ, pos, negsuc, replicate}
use Rattle.whole.specs.Lex.{pick, lex}
use Rattle.whole.specs.Sorting.{insert, sort}
use Rattle.whole.specs.Kind.{row_at, flat, rows_from, front}
use Rattle.whole.specs.Pass.{pass}
use Rattle.whole.specs.Distinct.{distinct}
use Rattle.whole.specs.Sum.{Sum, Over, keep}
use Rattle.geom.specs.declared.Segment.{Segment}
use Rattle.geom.specs.Plane.{point, segment, on_grid, grid_point, grid_segment, before, between, same_point, upright, turn, side_of}
use Rattle.segm.specs.Forward.{forward}
use Rattle.groups.specs.Group.{is_empty, is_far}
use Rattle.segm.specs.Merge.{same_ends, plus, groups_from, groups, merged_from, merged, paired_from, paired, any_far}
use Rattle.segm.specs.Balance.{balanced_at, balanced_over, closed}
use Rattle.cross.specs.Cross.{inner, collinear_mask, level, nearest, quotient, cross_point, on_both, far, nearer, reach, snapped, middle, cross_by, crossing}
use Rattle.cross.specs.Said.{Said, cross_said}
use Rattle.split.specs.Look.{one, line_marks, kind_marks, cross_marks, marks_with, look_from, same_mark, tidy}
use Rattle.split.specs.Chain.{points_of, add_to, columns, next_y, last_of, chain_from, chain, pieces_from, split_from}
use Rattle.fills.specs.Inside.{inside}
use Rattle.rules.specs.Keep.{kept}
use Rattle.edges.specs.Below.{alive, lean, lower, under, below, live}
use Rattle.scan.specs.Masks.{bottom, top, mask_of, byte_of, crowded_from}
use Rattle.faults.specs.Faults.{some}
use Rattle.checks.specs.declared.Settings.{Settings}
use Rattle.checks.specs.Checks.{is_short, is_bad, fault_of}
use Rattle.overlay.specs.Numbers.{refusal, answer0}
use Rattle.overlay.specs.Looks.{radius, joined, look_at, looks_from, ran}
use Rattle.overlay.specs.Outcome.{Lent, finished, swept, unless, outcome}

-- ---- crossings

at : ℤ → ℤ → ℤ → ℤ → Segment
at ax ay bx by = segment (point ax ay) (point bx by) (pos 1) (pos 0)

-- answer 0 with this kind, point, rounding and mask
crossed : ℕ → ℤ → ℤ → ℕ → ℕ → Said
crossed kind x y rounded mask = record { answer = 0; kind = kind; x = x; y = y; rounded = rounded; mask = mask }

-- exact; rounded, and exchanged; an upright target cut toward zero, and exchanged; both ties; on one line: mask 6, 0 and 8
crossings :
    (cross_said radius (at (pos 0) (pos 0) (pos 10) (pos 10)) (at (pos 0) (pos 10) (pos 10) (pos 0)) ≡ crossed 1 (pos 5) (pos 5) 0 0)
    × (cross_said radius (at (pos 0) (pos 0) (pos 9) (pos 9)) (at (pos 0) (pos 9) (pos 9) (pos 0)) ≡ crossed 1 (pos 5) (pos 5) 1 0)
    × (cross_said radius (at (pos 0) (pos 9) (pos 9) (pos 0)) (at (pos 0) (pos 0) (pos 9) (pos 9)) ≡ crossed 1 (pos 5) (pos 4) 1 0)
    × (cross_said radius (at (pos 0) (pos 0) (pos 0) (pos 10)) (at (negsuc 2) (pos 4) (pos 6) (pos 6)) ≡ crossed 1 (pos 0) (pos 4) 1 0)
    × (cross_said radius (at (negsuc 2) (pos 4) (pos 6) (pos 6)) (at (pos 0) (pos 0) (pos 0) (pos 10)) ≡ crossed 1 (pos 0) (pos 5) 1 0)
    × (cross_said radius (at (negsuc 0) (pos 0) (pos 1) (pos 0)) (at (pos 0) (negsuc 0) (pos 1) (pos 3)) ≡ crossed 2 (pos 1) (pos 0) 1 0)
    × (cross_said radius (at (pos 0) (pos 0) (pos 4) (pos 0)) (at (pos 2) (pos 0) (pos 6) (pos 0)) ≡ crossed 4 (pos 0) (pos 0) 0 6)
    × (cross_said radius (at (pos 0) (pos 0) (pos 4) (pos 0)) (at (pos 4) (pos 0) (pos 6) (pos 0)) ≡ crossed 4 (pos 0) (pos 0) 0 0)
    × (cross_said radius (at (pos 0) (pos 0) (pos 4) (pos 0)) (at (pos 0) (pos 0) (pos 2) (pos 0)) ≡ crossed 4 (pos 0) (pos 0) 0 8)
unfolding at crossed cross_said grid_segment grid_point on_grid same_point crossing cross_by cross_point middle snapped reach nearer far on_both quotient nearest level upright side_of turn collinear_mask inner between before
crossings = (refl, refl, refl, refl, refl, refl, refl, refl, refl)

-- ---- merging

A : ℤ → Segment
A s = segment (point (pos 0) (pos 0)) (point (pos 1) (pos 0)) s (pos 0)

B : Segment
B = segment (point (pos 0) (pos 0)) (point (pos 2) (pos 0)) (pos 1) (pos 0)

Z : Segment
Z = segment (point (negsuc 0) (pos 0)) (point (pos 2) (pos 0)) (pos 0) (pos 0)

-- a cancelled pair goes; without equal neighbours even a segment with no count stays
merges :
    (merged (A (pos 1) ∷ A (negsuc 0) ∷ B ∷ []) ≡ B ∷ [])
    × (paired (A (pos 1) ∷ A (negsuc 0) ∷ B ∷ []) ≡ true)
    × (merged (Z ∷ A (pos 1) ∷ B ∷ []) ≡ Z ∷ A (pos 1) ∷ B ∷ [])
    × (paired (Z ∷ A (pos 1) ∷ B ∷ []) ≡ false)
unfolding A B Z merged merged_from groups_from paired paired_from same_ends same_point plus is_empty keep
merges = (refl, refl, refl, refl)

-- ---- splitting, keeping, filling

-- (0,9)-(2,0) marked (1,3), (1,6)
reversed : chain (at (pos 0) (pos 9) (pos 2) (pos 0)) (point (pos 1) (pos 3) ∷ point (pos 1) (pos 6) ∷ []) ≡ point (pos 1) (pos 6) ∷ point (pos 1) (pos 3) ∷ []
unfolding at chain_from columns add_to next_y last_of
reversed = refl

-- mask 11: Intersect keeps, Union doesn't; mask 15: no rule keeps; the sum -1 is odd
decisions :
    (kept 2 11 ≡ true) × (kept 3 11 ≡ false)
    × (kept 0 15 ≡ false) × (kept 1 15 ≡ false) × (kept 2 15 ≡ false) × (kept 3 15 ≡ false) × (kept 4 15 ≡ false) × (kept 5 15 ≡ false) × (kept 6 15 ≡ false)
    × (inside 0 (negsuc 0) ≡ true)
unfolding kept inside
decisions = (refl, refl, refl, refl, refl, refl, refl, refl, refl, refl)

-- ---- the printed run

-- a square from (u, u) to (v, v), anticlockwise
square : ℤ → ℤ → ℤ → ℤ → List ℤ
square u v s c =
    u ∷ u ∷ v ∷ u ∷ s ∷ c
    ∷ v ∷ u ∷ v ∷ v ∷ s ∷ c
    ∷ v ∷ v ∷ u ∷ v ∷ s ∷ c
    ∷ u ∷ v ∷ u ∷ u ∷ s ∷ c ∷ []

squares : List ℤ
squares = square (pos 0) (pos 4) (pos 1) (pos 0) ++ square (pos 2) (pos 6) (pos 0) (pos 1)

-- NonZero, Intersect
settings : ℕ → Settings
settings budget = record { n = 8; fill = 1; rule = 2; budget = budget }

-- room for so many segments, marks and scan entries; a number more than the entries take, and something in every place
lent : ℕ → ℕ → ℕ → Lent
lent w m s = record { work = replicate (6 * w + 1) (pos 7); marks = replicate (3 * m + 1) (pos 7); scan = replicate (3 * s + 1) (pos 7); masks = replicate (w + 1) 7 }

-- the twelve edges, and their bytes
edges : List ℤ
edges =
    pos 0 ∷ pos 0 ∷ pos 0 ∷ pos 4 ∷ negsuc 0 ∷ pos 0
    ∷ pos 0 ∷ pos 0 ∷ pos 4 ∷ pos 0 ∷ pos 1 ∷ pos 0
    ∷ pos 0 ∷ pos 4 ∷ pos 2 ∷ pos 4 ∷ negsuc 0 ∷ pos 0
    ∷ pos 2 ∷ pos 2 ∷ pos 2 ∷ pos 4 ∷ pos 0 ∷ negsuc 0
    ∷ pos 2 ∷ pos 2 ∷ pos 4 ∷ pos 2 ∷ pos 0 ∷ pos 1
    ∷ pos 2 ∷ pos 4 ∷ pos 2 ∷ pos 6 ∷ pos 0 ∷ negsuc 0
    ∷ pos 2 ∷ pos 4 ∷ pos 4 ∷ pos 4 ∷ negsuc 0 ∷ pos 0
    ∷ pos 2 ∷ pos 6 ∷ pos 6 ∷ pos 6 ∷ pos 0 ∷ negsuc 0
    ∷ pos 4 ∷ pos 0 ∷ pos 4 ∷ pos 2 ∷ pos 1 ∷ pos 0
    ∷ pos 4 ∷ pos 2 ∷ pos 4 ∷ pos 4 ∷ pos 1 ∷ pos 0
    ∷ pos 4 ∷ pos 2 ∷ pos 6 ∷ pos 2 ∷ pos 0 ∷ pos 1
    ∷ pos 6 ∷ pos 2 ∷ pos 6 ∷ pos 6 ∷ pos 0 ∷ pos 1 ∷ []

marked : List ℕ
marked = 2 ∷ 1 ∷ 2 ∷ 27 ∷ 23 ∷ 8 ∷ 30 ∷ 8 ∷ 1 ∷ 29 ∷ 4 ∷ 4 ∷ []

-- the printed run; then with budget 1, with room for 3 marks, for 11 segments, for 3 scan entries; with budget 1 and room for 3 marks (7 before 10); n = 0
runs :
    (outcome squares (settings 2) (lent 12 4 4)
    ≡ record { answer = answer0 12 2; lists = record { work = edges ++ pos 0 ∷ []; marks = replicate 13 (pos 0); scan = replicate 13 (pos 0); masks = marked ++ 0 ∷ [] } })
    × (outcome squares (settings 1) (lent 12 4 4)
    ≡ record { answer = refusal 10; lists = record { work = replicate 73 (pos 0); marks = replicate 13 (pos 0); scan = replicate 13 (pos 0); masks = replicate 13 0 } })
    × (outcome squares (settings 2) (lent 12 3 4)
    ≡ record { answer = refusal 7; lists = record { work = replicate 73 (pos 0); marks = replicate 10 (pos 0); scan = replicate 13 (pos 0); masks = replicate 13 0 } })
    × (outcome squares (settings 2) (lent 11 4 4)
    ≡ record { answer = refusal 8; lists = record { work = replicate 67 (pos 0); marks = replicate 13 (pos 0); scan = replicate 13 (pos 0); masks = replicate 12 0 } })
    × (outcome squares (settings 2) (lent 12 4 3)
    ≡ record { answer = refusal 11; lists = record { work = replicate 73 (pos 0); marks = replicate 13 (pos 0); scan = replicate 10 (pos 0); masks = replicate 13 0 } })
    × ((outcome squares (settings 1) (lent 12 3 4)).answer ≡ refusal 7)
    × ((outcome squares (record { n = 0; fill = 1; rule = 2; budget = 2 }) (lent 12 4 4)).answer ≡ answer0 0 0)
unfolding square squares settings lent edges marked pick lex insert sort row_at flat rows_from front pass distinct Sum Over keep on_grid grid_point grid_segment before between same_point upright turn side_of forward same_ends plus groups_from groups is_empty merged_from merged is_far any_far balanced_at balanced_over closed inner level nearest quotient cross_point on_both far nearer reach snapped middle cross_by crossing one line_marks kind_marks cross_marks marks_with look_from same_mark tidy points_of add_to columns next_y last_of chain_from pieces_from split_from inside kept alive lean lower under below bottom top live mask_of byte_of crowded_from is_short is_bad some fault_of joined look_at looks_from ran finished swept unless outcome
runs = (refl, refl, refl, refl, refl, refl, refl)
