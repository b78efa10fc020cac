-- What merging asks of counts, and its state in one pass ("Merge"): the group of equal neighbours that is open, and whether an equal
-- pair was met up to it.
use Rattle.std.specs.Prelude.{Bool, true, cond, ◌&&◌, ◌||◌, List, [], ◌∷◌, ℤ, pos, negsuc, ◌+ℤ◌}
use Rattle.std.specs.Int.Signed.{lt_z}
use Rattle.geom.specs.declared.Segment.{Segment}
use Rattle.geom.specs.Plane.{sameZ, segment}
use Rattle.groups.specs.declared.Group.{Group}

-- both counts zero
unfoldable pub is_empty : Segment → Bool
is_empty v = sameZ v.subject.0 (pos 0) && sameZ v.clip.0 (pos 0)

-- outside ±(2^31 - 1)
unfoldable pub is_far : ℤ → Bool
is_far z = lt_z z (negsuc 2147483646) || lt_z (pos 2147483647) z

-- the group as one segment with its totals
abbrev pub joint : Group → Segment
joint g = segment g.a g.b g.subject g.clip

-- a group of one
abbrev pub alone : Segment → Bool → Group
alone v met = record { a = v.a; b = v.b; subject = v.subject.0; clip = v.clip.0; met = met }

-- one more, which makes an equal pair
abbrev pub with_one : Group → Segment → Group
with_one g v = record { a = g.a; b = g.b; subject = g.subject +ℤ v.subject.0; clip = g.clip +ℤ v.clip.0; met = true }

unfoldable pub far_group : Group → Bool
far_group g = is_far g.subject || is_far g.clip

-- both totals zero, from the first equal pair on
unfoldable pub is_dropped : Group → Bool
is_dropped g = g.met && is_empty (joint g)

-- what the group leaves
unfoldable pub left : Group → List Segment
left g = cond (is_dropped g) [] (joint g ∷ [])
