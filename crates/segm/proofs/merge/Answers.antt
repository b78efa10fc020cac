-- `segm::merge` meets its contract: the two tests are `too_short`, an empty list stays, and else `merge_rows` promises the rest.
use mathlib.Core.Path.{◌≡◌, refl, sym}
use mathlib.Core.Bool.{true}
use mathlib.Core.List.{List}
use Prim.Native.Nat.{ℕ}
use native.Mathlib.Omega.{arith}
use lib.IntN.{ℤ}
use Rattle.std.specs.Prelude.{false, Result, Ok, Err}
use Rattle.whole.specs.Kind.{rows_from, front, flat}
use Rattle.segm.specs.declared.Merged.{Merged}
use Rattle.segm.specs.declared.MergeError.{MergeError}
use Rattle.segm.specs.declared.MergeError.TheVariants.{Short}
use Rattle.segm.proofs.MergeLaws.{over_limit, no_room, enough, also-said}
use Rattle.segm.specs.Merge.{groups, merged, paired, any_far, too_short, merge_answer, merge_list, merge_says, merge_said}
use Rattle.segm.proofs.merge.Goals as goal
use Rattle.segm.proofs.merge.Goals.{then-n-gt2048-via-then-n-gt2048, then-n-gt2048-via-else-n-gt2048+then-work-n}

nothing : (xs : List ℤ) → (merge_answer xs 0 ≡ Ok (record { left = 0; joined = false })) × (merge_list xs 0 ≡ xs)
unfolding merge_answer merge_list rows_from groups any_far paired merged front flat
nothing xs = rw (enough xs 0 (omega arith) (omega arith)) (refl, refl)

said : (xs : List ℤ) (n : ℕ) {r : Result Merged MergeError} → r ≡ merge_answer xs n → merge_says r ≡ merge_said xs n
said xs n e = (also-said xs n {P = Unit {0}} (e, tt)).1.0

pub returns-then-n-gt2048 : goal.returns-then-n-gt2048
unfolding merge_answer merge_list
returns-then-n-gt2048 c =
    let x = c.args in
    let s : too_short x.work.now x.n ≡ true =
    elim c.then-n-gt2048.branch [
      | then-n-gt2048-via-then-n-gt2048 w ↦ over_limit x.work.now x.n w.if-n-gt2048.true
      | then-n-gt2048-via-else-n-gt2048+then-work-n w ↦ no_room x.work.now x.n w.if-work-n.true
    ] in
    record { value = rw s; result_value = said _ _ {r = Err Short} (rw s); work_after = rw s }

pub returns-then-n-eq0 : goal.returns-then-n-eq0
returns-then-n-eq0 c =
    let h = nothing c.args.work.now in
    let e : Ok (record { left = 0; joined = false }) ≡ merge_answer c.args.work.now c.args.n = rw c.if-n-eq0.true (sym h.0) in
    record { value = e; result_value = said _ _ e; work_after = rw c.if-n-eq0.true (sym h.1) }

pub returns : goal.returns
unfolding merge_answer merge_list
returns c =
    let s = enough c.args.work.now c.args.n c.if-n-gt2048.false c.if-work-n.false in
    record { value = rw s c.merge_rows.ensures.value; result_value = said _ _ (rw s c.merge_rows.ensures.value); work_after = rw s c.merge_rows.ensures.work_after }
