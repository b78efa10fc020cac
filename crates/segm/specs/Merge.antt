-- Merging ("Merge", and refusal 9): equal neighbours become one, with summed counts.
use Rattle.std.specs.Prelude.{Bool, false, not, cond, ◌&&◌, ◌||◌, List, [], ◌∷◌, ℕ, ◌*◌, ltb, ℤ, pos, ◌+ℤ◌, length, replicate, Result, Ok, Err}
use Rattle.whole.specs.Kind.{rows_from, front}
use Rattle.whole.specs.Sum.{keep}
use Rattle.geom.specs.declared.Segment.{Segment}
use Rattle.geom.specs.Limits.{segment_limit}
use Rattle.geom.specs.Plane.{same_point, segment}
use Rattle.geom.specs.Rows.{segments}
use Rattle.groups.specs.Group.{is_empty, is_far}
use Rattle.segm.specs.declared.Merged.{Merged}
use Rattle.segm.specs.declared.MergeError.{MergeError}
use Rattle.segm.specs.declared.MergeError.TheVariants.{Short, TooBig}

-- equal: the same ends
unfoldable pub same_ends : Segment → Segment → Bool
same_ends u v = same_point u.a v.a && same_point u.b v.b

unfoldable pub plus : Segment → Segment → Segment
plus u v = segment u.a u.b (u.subject.0 +ℤ v.subject.0) (u.clip.0 +ℤ v.clip.0)

-- the groups of equal neighbours, each as one segment with the total counts; the first begins with u
unfoldable pub groups_from : Segment → List Segment → List Segment
groups_from u [] = u ∷ []
groups_from u (v ∷ L) = cond (same_ends u v) (groups_from (plus u v) L) (u ∷ groups_from v L)

unfoldable pub groups : List Segment → List Segment
groups [] = []
groups (u ∷ L) = groups_from u L

-- what stands before the first equal pair stays; from it on groups take the place of their segments, and the empty ones are dropped
unfoldable pub merged_from : Segment → List Segment → List Segment
merged_from u [] = u ∷ []
merged_from u (v ∷ L) = cond (same_ends u v) (keep (λ g. not (is_empty g)) (groups_from u (v ∷ L))) (u ∷ merged_from v L)

unfoldable pub merged : List Segment → List Segment
merged [] = []
merged (u ∷ L) = merged_from u L

-- whether there are equal neighbours: the answer of merging
unfoldable pub paired_from : Segment → List Segment → Bool
paired_from u [] = false
paired_from u (v ∷ L) = same_ends u v || paired_from v L

unfoldable pub paired : List Segment → Bool
paired [] = false
paired (u ∷ L) = paired_from u L

-- refusal 9: a group's subject or clip total is outside
unfoldable pub any_far : List Segment → Bool
any_far [] = false
any_far (g ∷ L) = (is_far g.subject.0 || is_far g.clip.0) || any_far L

abbrev pub too_big : List Segment → Bool
too_big L = any_far (groups L)

-- ---- merging the first n rows of a lent list

-- refusal 1: n over the limit, or not as many rows
unfoldable pub too_short : List ℤ → ℕ → Bool
too_short xs n = ltb segment_limit n || ltb (length xs) (6 * n)

-- how many segments are left, and true (joined) exactly if there are equal neighbours
abbrev pub answer_of : List Segment → Result Merged MergeError
answer_of L = cond (too_big L) (Err TooBig) (Ok (record { left = length (merged L); joined = paired L }))

-- the merged rows at the front and all else as it was; wholly zero after 9
abbrev pub list_of : List ℤ → List Segment → List ℤ
list_of xs L = cond (too_big L) (replicate (length xs) (pos 0)) (front segments xs (merged L))

unfoldable pub merge_answer : List ℤ → ℕ → Result Merged MergeError
merge_answer xs n = cond (too_short xs n) (Err Short) (answer_of (rows_from segments xs 0 n))

unfoldable pub merge_list : List ℤ → ℕ → List ℤ
merge_list xs n = cond (too_short xs n) xs (list_of xs (rows_from segments xs 0 n))

-- ---- the same in document 01's numbers: the number of the table, whether true is returned, and how many segments are left

pub record Said : Type 0 where
  pub answer : ℕ
  pub joined : Bool
  pub segments : ℕ

-- a refusal returns neither
abbrev pub only : ℕ → Said
only k = record { answer = k; joined = false; segments = 0 }

abbrev pub merge_says : Result Merged MergeError → Said
merge_says (Ok m) = record { answer = 0; joined = m.joined; segments = m.left }
merge_says (Err Short) = only 1
merge_says (Err TooBig) = only 9

unfoldable pub merge_said : List ℤ → ℕ → Said
merge_said xs n =
    let L = rows_from segments xs 0 n in
    cond (too_short xs n) (only 1) (cond (too_big L) (only 9) (record { answer = 0; joined = paired L; segments = length (merged L) }))
