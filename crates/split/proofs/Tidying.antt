-- Marks that compare equal are equal, and what dropping the repeats of the sorted marks leaves is the tidy list.
use mathlib.Core.Path.{◌≡◌, sym, ap, ap₂, ◌∙◌}
use mathlib.Core.Bool.{Bool, cond}
use mathlib.Core.List.{List}
use Prim.Native.Nat.{ℕ, ◌*◌, ◌≤◌}
use native.Mathlib.Omega.{arith}
use lib.IntN.{ℤ}
use lib.ListN.{length}
use lib.Signed.{lt_z}
use Rattle.whole.specs.Distinct.{Dropped}
use Rattle.whole.specs.Kind.{rows_from, front}
use Rattle.whole.proofs.KindLaws.{length-rows, rows-front}
use Rattle.whole.proofs.KindSortLaws.{sorted_front}
use Rattle.whole.specs.Sorting.{sort}
use Rattle.whole.proofs.SortingLaws.{sort-length}
use Rattle.geom.specs.declared.Point.{Point}
use Rattle.geom.specs.Tests.{Decides, said, both, same?}
use Rattle.geom.proofs.TestsLaws.{same_point?}
use Rattle.rows.specs.Sorted.{fitting, in_order}
use Rattle.rows.proofs.SortedLaws.{fitting-true}
use Rattle.split.specs.declared.answer.Mark.{Mark}
use Rattle.split.specs.Marks.{marks}
use Rattle.split.specs.Look.{mark_order, same_mark, tidy}

mark-eq : {m n : Mark} → m.segment ≡ n.segment → m.point ≡ n.point → m ≡ n
mark-eq p q = ap₂ (λ (s : ℤ) (t : Point). record { segment = s; point = t }) p q

pub same_mark? : (m n : Mark) → Decides (m ≡ n) (same_mark m n)
unfolding same_mark
same_mark? m n =
    said (λ h. mark-eq h.0 h.1) (λ e. (ap (λ t. t.segment) e, ap (λ t. t.point) e))
    (both (same? m.segment n.segment) (same_point? m.point n.point))

module _ (xs : List ℤ) (count : ℕ) where
  abbrev ms : List Mark
  ms = rows_from marks xs 0 count

  -- what `rows::sort` leaves
  pub sorted : {r : Bool} {ys : List ℤ} → 3 * count ≤ length xs
      → r ≡ fitting count 3 (length xs) → ys ≡ cond r (in_order lt_z count 3 xs) xs → ys ≡ front marks xs (sort mark_order ms)
  unfolding in_order
  sorted h e f =
      let t = fitting-true count 3 (length xs) (omega arith) (omega arith) in
      sorted_front marks lt_z count xs h (f ∙ rw (e, t))

  -- and what dropping repeats makes of it

  pub tidied : {r : ℕ} {zs : List ℤ} → Dropped marks same_mark (front marks xs (sort mark_order ms)) count r zs
      → (r ≡ length (tidy ms)) × (zs ≡ front marks (front marks xs (sort mark_order ms)) (tidy ms))
  unfolding tidy
  tidied d =
      let ss = sort mark_order ms in
      let n : count ≡ length ss = sym (sort-length mark_order ms ∙ length-rows marks xs 0 count) in
      let e : rows_from marks (front marks xs ss) 0 count ≡ ss = ap (rows_from marks (front marks xs ss) 0) n ∙ rows-front marks xs ss in
      (rw e at d.number, rw e at d.list)
