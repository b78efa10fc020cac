-- `look` meets its contract: each test in turn is the definition's, and a list that passes them all goes to `pairs`.
use mathlib.Core.Path.{◌≡◌, refl, sym, ◌∙◌}
use mathlib.Core.Bool.{true, false, ◌||◌}
use native.Mathlib.Omega.{arith}
use Prim.Native.Nat.{ℕ, ◌*◌}
use borrow.Author.Tests.{lt-ltb, le-ltb}
use lib.Dec.{ltb}
use lib.ListN.{length}
use Rattle.whole.specs.Kind.{rows_from}
use Rattle.geom.specs.Rows.{segments}
use borrow.Author.Rules.{rules}
use Rattle.faults.specs.Faults.{some, is_off}
use Rattle.split.specs.Looked.{look_answer}
use Rattle.pairwise.specs.Listed.{look_list}
use Rattle.std.specs.Prelude.{Result, Err}
use Rattle.split.specs.declared.answer.LookError.{LookError}
use Rattle.split.specs.declared.answer.LookError.TheVariants.{Short, OffGrid, NoLength}
use Rattle.split.specs.Said.{look_says, look_said, also-looked}
use Rattle.pairwise.proofs.look.Goals as goal
use Rattle.pairwise.proofs.look.Goals.{Start, Else-some_fault, Else-work-n, then-n-gt2048-via-then-n-gt2048, then-n-gt2048-via-else-n-gt2048+then-work-n}

long_enough : (c : Else-work-n) → let a = c.args in (ltb 2048 a.n || ltb (length a.work.now) (6 * a.n)) ≡ false
long_enough c = rw (le-ltb 2048 c.args.n (omega arith), le-ltb _ _ c.if-work-n.false)

none_off : (c : Else-some_fault) → let a = c.args in some is_off (rows_from segments a.work.now 0 a.n) ≡ false
none_off c = sym c.some_fault.ensures ∙ c.if-some_fault.false

-- what the value says in numbers follows from the value
said : (c : Start) {r : Result ℕ LookError} → let a = c.args in
    r ≡ look_answer a.radius a.work.now a.n a.marks.now → look_says r ≡ look_said a.radius a.work.now a.n a.marks.now
said c v = let a = c.args in (also-looked a.radius a.work.now a.n a.marks.now (v, tt {0})).1.0

pub returns-then-n-gt2048 : goal.returns-then-n-gt2048
unfolding look_answer look_list
returns-then-n-gt2048 c =
    let a = c.args in
    let s : (ltb 2048 a.n || ltb (length a.work.now) (6 * a.n)) ≡ true =
    elim c.then-n-gt2048.branch [
      | then-n-gt2048-via-then-n-gt2048 w ↦ rw (lt-ltb 2048 a.n w.if-n-gt2048.true)
      | then-n-gt2048-via-else-n-gt2048+then-work-n w ↦ rw (le-ltb 2048 a.n w.if-n-gt2048.false, lt-ltb _ _ w.if-work-n.true)
    ] in
    let v : Err Short ≡ look_answer a.radius a.work.now a.n a.marks.now = rw s in
    record { value = v; result_value = said (goal.at.returns-then-n-gt2048 c).Start v; marks_after = refl }

pub returns-then-some_fault : goal.returns-then-some_fault
unfolding look_answer look_list
returns-then-some_fault c =
    let a = c.args in
    let l = long_enough (goal.at.returns-then-some_fault c).Else-work-n in
    let v : Err OffGrid ≡ look_answer a.radius a.work.now a.n a.marks.now = rw (l, sym c.some_fault.ensures ∙ c.if-some_fault.true) in
    record { value = v; result_value = said (goal.at.returns-then-some_fault c).Start v; marks_after = refl }

pub returns-then-some_fault-2 : goal.returns-then-some_fault-2
unfolding look_answer look_list
returns-then-some_fault-2 c =
    let a = c.args in
    let l = long_enough (goal.at.returns-then-some_fault-2 c).Else-work-n in
    let o = none_off (goal.at.returns-then-some_fault-2 c).Else-some_fault in
    let v : Err NoLength ≡ look_answer a.radius a.work.now a.n a.marks.now = rw (l, o, sym c.some_fault-2.ensures ∙ c.if-some_fault-2.true) in
    record { value = v; result_value = said (goal.at.returns-then-some_fault-2 c).Start v; marks_after = refl }

pub pairs-requires : goal.pairs-requires
pairs-requires c = record { n_in_bounds = omega arith; n_bound = omega arith; n_value = none_off (goal.at.pairs-requires c).Else-some_fault }

pub returns : goal.returns
unfolding look_answer
returns c =
    let a = c.args in
    let p = c.pairs.ensures in
    let l = long_enough (goal.at.returns c).Else-work-n in
    let o = none_off (goal.at.returns c).Else-some_fault in
    let v : c.pairs.result ≡ look_answer a.radius a.work.now a.n a.marks.now = rw (l, o, sym c.some_fault-2.ensures ∙ c.if-some_fault-2.false) p.value in
    record { value = v; result_value = said (goal.at.returns c).Start v; marks_after = p.marks_after }
