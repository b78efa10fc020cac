-- `tidy` meets its contract: the sort puts the marks in order, as there are so many, and dropping their repeats leaves the tidy list.
use mathlib.Core.Path.{◌≡◌, refl, ap}
use Prim.Native.Nat.{◌*◌, ◌≤◌}
use native.Mathlib.Omega.{arith}
use borrow.Author.Tests.{lt-ltb, le-ltb}
use lib.ListN.{length}
use Rattle.std.specs.Prelude.{Ok, Err}
use Rattle.split.specs.declared.answer.TidyError.TheVariants.{Short}
use Rattle.split.specs.Tidied.{tidy_answer, tidy_list}
use Rattle.split.specs.Said.{also_tidied}
use Rattle.split.proofs.Tidying.{sorted, tidied}
use Rattle.split.proofs.tidy.tidy.Goals as goal

pub returns-then-mark_room-count : goal.returns-then-mark_room-count
unfolding tidy_answer tidy_list
returns-then-mark_room-count c =
    let x = c.args in
    let v : Err Short ≡ tidy_answer x.marks.now x.count = rw (← c.mark_room.ensures, lt-ltb _ _ c.if-mark_room-count.true) in
    record { value = v; result_value = (also_tidied x.marks.now x.count (v, tt {0})).1.0; marks_after = refl }

pub returns : goal.returns
unfolding tidy_answer tidy_list
returns c =
    let x = c.args in
    let h : x.count ≤ c.mark_room.result = c.if-mark_room-count.false in
    let f : 3 * x.count ≤ length x.marks.now = omega (arith, c.mark_room.ensures) in
    let t = tidied x.marks.now x.count (rw (sorted x.marks.now x.count f c.sort.ensures.value c.sort.ensures.rows_after) at c.drop_repeats.ensures) in
    let v : Ok c.drop_repeats.result ≡ tidy_answer x.marks.now x.count = rw (← c.mark_room.ensures, le-ltb _ _ h) (ap (λ k. Ok k) t.0) in
    record { value = v; result_value = (also_tidied x.marks.now x.count (v, tt {0})).1.0; marks_after = t.1 }
