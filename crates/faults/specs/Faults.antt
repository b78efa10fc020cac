-- Refusals 3 to 5 ("Input and answer"), as tests of one segment, and whether some segment of a list fails one.
use Rattle.std.specs.Prelude.{Bool, false, not, cond, ◌||◌, List, [], ◌∷◌, ℕ, eqb, negsuc}
use Rattle.geom.specs.declared.Segment.{Segment}
use Rattle.geom.specs.Plane.{sameZ, same_point, grid_segment}

-- some segment has the fault
unfoldable pub some : (Segment → Bool) → List Segment → Bool
some has [] = false
some has (v ∷ L) = has v || some has L

-- 3
abbrev pub is_off : Segment → Bool
is_off v = not (grid_segment v)

-- 4
abbrev pub is_point : Segment → Bool
is_point v = same_point v.a v.b

-- 5
abbrev pub has_least : Segment → Bool
has_least v = sameZ v.subject.0 (negsuc 2147483647) || sameZ v.clip.0 (negsuc 2147483647)

-- these three by their numbers
abbrev pub fault : ℕ → Segment → Bool
fault k = cond (eqb k 3) is_off (cond (eqb k 4) is_point has_least)
