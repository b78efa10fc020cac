-- Splitting a list where it stands ("Splitting"; refusals 1, 5 and 8 of "Input and answer"): what is answered, and what the work list then holds.
use Rattle.std.specs.Prelude.{Bool, true, false, cond, ◌&&◌, List, [], ◌∷◌, ℕ, ◌+◌, ltb, ℤ, pos, length, replicate, Result, Ok, Err}
use Rattle.std.specs.Int.Signed.{lt_z}
use Rattle.whole.specs.Kind.{rows_from, front}
use Rattle.geom.specs.declared.Segment.{Segment}
use Rattle.geom.specs.Plane.{before}
use Rattle.geom.specs.Limits.{work_room, mark_room}
use Rattle.geom.specs.Rows.{segments}
use Rattle.faults.specs.Faults.{some, has_least}
use Rattle.split.specs.declared.answer.Mark.{Mark}
use Rattle.split.specs.Marks.{marks}
use Rattle.split.specs.Chain.{split}
use Rattle.apply.specs.declared.ApplyError.{ApplyError}
use Rattle.apply.specs.declared.ApplyError.TheVariants.{Short, BadCount, Full}

-- ---- marks as a look leaves them ("The run"): sorted by segment, x, y, without repeats, each of a segment of the list

-- the mark's segment is one of n
unfoldable pub names : ℕ → Mark → Bool
names n m = cond (lt_z m.segment (pos 0)) false (lt_z m.segment (pos n))

unfoldable pub earlier : Mark → Mark → Bool
earlier m k = cond (lt_z m.segment k.segment) true (cond (lt_z k.segment m.segment) false (before m.point k.point))

-- m is earlier than the mark after it
unfoldable pub leads : Mark → List Mark → Bool
leads m [] = true
leads m (k ∷ ks) = earlier m k

unfoldable pub in_order : ℕ → List Mark → Bool
in_order n [] = true
in_order n (m ∷ ms) = (names n m && leads m ms) && in_order n ms

-- ---- the answer

-- what n segments and `count` marks come to, with room for so many segments
unfoldable pub outcome : ℕ → List Segment → List Mark → ℕ → ℕ → Result ℕ ApplyError
outcome room L ms n count =
    cond (in_order n ms) (cond (some has_least L) (Err BadCount) (cond (ltb room (n + count)) (Err Full) (Ok (n + count)))) (Err Short)

-- 1 where a capacity is under what the list is said to hold, or the marks are not in order
unfoldable pub apply_answer : List ℤ → ℕ → List ℤ → ℕ → Result ℕ ApplyError
apply_answer xs n zs count =
    cond (ltb (work_room (length xs)) n) (Err Short)
    (cond (ltb (mark_room (length zs)) count) (Err Short) (outcome (work_room (length xs)) (rows_from segments xs 0 n) (rows_from marks zs 0 count) n count))

-- the work list after an answer: the pieces at the front and the rest as it was; after 8 wholly zero; 1 and 5 change nothing
unfoldable pub apply_list : Result ℕ ApplyError → List ℤ → ℕ → List ℤ → ℕ → List ℤ
apply_list (Ok k) xs n zs count = front segments xs (split (rows_from marks zs 0 count) (rows_from segments xs 0 n))
apply_list (Err Full) xs n zs count = replicate (length xs) (pos 0)
apply_list (Err Short) xs n zs count = xs
apply_list (Err BadCount) xs n zs count = xs
