-- `apply::apply` meets its contract: each answer has its law, by the tests before it; what `cut_all` leaves is the pieces at the front.
use mathlib.Core.Path.{◌≡◌, refl, sym, ◌∙◌}
use mathlib.Core.List.{List}
use Prim.Native.Nat.{ℕ}
use native.Mathlib.Omega.{arith}
use lib.IntN.{ℤ}
use Rattle.std.specs.Prelude.{Result, Err}
use Rattle.apply.specs.declared.ApplyError.{ApplyError}
use Rattle.apply.specs.declared.ApplyError.TheVariants.{Short}
use Rattle.faults.specs.Faults.{has_least}
use Rattle.apply.specs.Answer.{apply_answer, apply_list}
use Rattle.apply.specs.Said.{apply_says, apply_said, also-said}
use Rattle.apply.proofs.Answered.{too_long, too_many, unordered, bad_count, no_room, all-cut, at_front}
use borrow.Author.Rules.{rules}
use Rattle.apply.proofs.apply.Goals as goal
use Rattle.apply.proofs.apply.Goals.{then-room-n-via-then-room-n, then-room-n-via-else-room-n+then-mark_room-count, then-room-n-via-else-room-n+else-mark_room-count+then-not-in_order}

said : (xs : List ℤ) (n : ℕ) (zs : List ℤ) (count : ℕ) {r : Result ℕ ApplyError} → r ≡ apply_answer xs n zs count → apply_says r ≡ apply_said xs n zs count
said xs n zs count e = (also-said xs n zs count {P = Unit {0}} (e, tt)).1.0

pub returns-then-room-n : goal.returns-then-room-n
unfolding apply_list
returns-then-room-n c =
    let x = c.args in
    let e : apply_answer x.work.now x.n x.marks.now x.count ≡ Err Short =
    elim c.then-room-n.branch [
      | then-room-n-via-then-room-n w ↦ too_long x.work.now x.n x.marks.now x.count (omega (arith, w.if-room-n.true))
      | then-room-n-via-else-room-n+then-mark_room-count w ↦
          too_many x.work.now x.n x.marks.now x.count (omega (arith, w.if-room-n.false)) (omega (arith, w.mark_room.ensures, w.if-mark_room-count.true))
      | then-room-n-via-else-room-n+else-mark_room-count+then-not-in_order w ↦
          unordered x.work.now x.n x.marks.now x.count (omega (arith, w.if-room-n.false)) (omega (arith, w.mark_room.ensures, w.if-mark_room-count.false)) (sym w.in_order.ensures ∙ w.if-not-in_order.true)
    ] in
    record { value = sym e; result_value = said _ _ _ _ (sym e); work_after = refl }

pub returns-then-some_row : goal.returns-then-some_row
unfolding apply_list
returns-then-some_row c =
    let x = c.args in
    let ordered = sym c.in_order.ensures ∙ c.if-not-in_order.false in
    let least = sym (c.some_row.ensures has_least (λ v r h. search rules)) ∙ c.if-some_row.true in
    let e = bad_count x.work.now x.n x.marks.now x.count (omega arith) (omega arith) ordered least in
    record { value = sym e; result_value = said _ _ _ _ (sym e); work_after = refl }

pub returns-then-room-n-2 : goal.returns-then-room-n-2
unfolding apply_list
returns-then-room-n-2 c =
    let x = c.args in
    let ordered = sym c.in_order.ensures ∙ c.if-not-in_order.false in
    let least = sym (c.some_row.ensures has_least (λ v r h. search rules)) ∙ c.if-some_row.false in
    let e = no_room x.work.now x.n x.marks.now x.count (omega arith) (omega arith) ordered least (omega arith) in
    record { value = sym e; result_value = said _ _ _ _ (sym e); work_after = search rules }

pub cut_all-requires : goal.cut_all-requires
cut_all-requires c =
    let ordered = sym c.in_order.ensures ∙ c.if-not-in_order.false in
    let least = sym (c.some_row.ensures has_least (λ v r h. search rules)) ∙ c.if-some_row.false in
    record { n_bound = omega arith; count_in_bounds = search rules; count_in_bounds_2 = search rules; count_value = ordered; n_value = least }

pub returns : goal.returns
unfolding apply_list
returns c =
    let x = c.args in
    let t = c.if-not-in_order.false in
    let ordered = sym c.in_order.ensures ∙ t in
    let least = sym (c.some_row.ensures has_least (λ v r h. search rules)) ∙ c.if-some_row.false in
    let e = all-cut x.work.now x.n x.marks.now x.count (omega arith) (omega arith) ordered least (omega arith) in
    record { value = sym e; result_value = said _ _ _ _ (sym e); work_after = c.cut_all.ensures ∙ at_front x.work.now x.n x.marks.now x.count (omega arith) ordered }
