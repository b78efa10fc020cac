-- Tidying, splitting and joining, in turn: on a list that keeps what every list keeps each gives its definition's list, and 8 and 9 are the only refusals.
use mathlib.Core.Path.{◌≡◌, refl, sym, ap, ◌∙◌, subst}
use mathlib.Core.Bool.{Bool, true, false, cond}
use mathlib.Core.List.{List, [], ◌∷◌, ◌++◌}
use Prim.Native.Nat.{ℕ, suc, ◌+◌, ◌≤◌}
use native.Mathlib.Omega.{arith}
use lib.Dec.{ltb}
use lib.IntN.{ℤ}
use lib.ListN.{length}
use borrow.Author.Tests.{ltb-false, le-ltb}
use Rattle.whole.specs.Kind.{rows_from, front}
use Rattle.whole.proofs.KindLaws.{length-rows, rows-front, length_front}
use Rattle.whole.specs.Pass.{pass}
use Rattle.whole.specs.Distinct.{differing, distinct}
use Rattle.whole.specs.Sorting.{sort}
use Rattle.whole.proofs.SortingLaws.{sort-length}
use Rattle.whole.proofs.SumLaws.{all_map}
use Rattle.geom.specs.declared.Segment.{Segment}
use Rattle.geom.specs.Limits.{work_room, mark_room}
use Rattle.geom.specs.Rows.{segments}
use Rattle.split.specs.declared.answer.Mark.{Mark}
use Rattle.split.specs.declared.answer.TidyError.{TidyError}
use Rattle.split.specs.Marks.{marks}
use Rattle.split.specs.Look.{look, tidy, mark_order, same_mark}
use Rattle.split.specs.Tidied.{tidy_answer, tidy_list}
use Rattle.split.specs.Chain.{split}
use Rattle.apply.specs.declared.ApplyError.{ApplyError}
use Rattle.apply.specs.declared.ApplyError.TheVariants.{Full}
use Rattle.apply.specs.Answer.{in_order, apply_answer, apply_list, outcome}
use Rattle.apply.proofs.Back.{number-split}
use Rattle.std.specs.Prelude.{Result, Ok, Err}
use Rattle.steps.specs.declared.TooBig.{TooBig}
use Rattle.steps.specs.Joining.{join_answer, join_list}
use Rattle.overlay.specs.declared.answer.Refusal.TheVariants.{WorkFull, TooBig as Big}
use Rattle.overlay.specs.Looks.{Ran, refused, radius, joined}
use Rattle.demands.specs.Chain.{cut}
use Rattle.demands.proofs.PiecesLaws.{cut_is_good}
use Rattle.settle.specs.Kept.{Kept, Marked}
use Rattle.settle.specs.Step.{split_at}
use Rattle.settle.proofs.Sound.{clear, sound-near}
use Rattle.settle.proofs.Joining.{is_joined, is_big}
use Rattle.settle.proofs.Order.{tidy_in_order}

-- ---- tidying

pass-length : (p : Mark) (ms : List Mark) → length (pass (differing same_mark) p ms) ≤ length ms
unfolding pass
pass-length p [] = omega arith
pass-length p (q ∷ ms) = go (same_mark p q) (pass-length q ms)
  where
    go : (b : Bool) → length (pass (differing same_mark) q ms) ≤ length ms → length (cond b [] (q ∷ []) ++ pass (differing same_mark) q ms) ≤ suc (length ms)
    go true h = omega arith
    go false h = omega arith

distinct-length : (ms : List Mark) → length (distinct same_mark ms) ≤ length ms
unfolding distinct
distinct-length [] = omega arith
distinct-length (m ∷ ms) = omega (arith, pass-length m ms)

tidy-length : (ms : List Mark) → length (tidy ms) ≤ length ms
unfolding tidy
tidy-length ms = omega (arith, distinct-length (sort mark_order ms), sort-length mark_order ms)

-- the marks of a look at L, tidied, stand at the front of zs
pub record Tidy (L : List Segment) (zs : List ℤ) : Type 0 where
  pub room : length (tidy (look radius L)) ≤ mark_room (length zs)
  pub rows : rows_from marks zs 0 (length (tidy (look radius L))) ≡ tidy (look radius L)

module _ {L : List Segment} {zs : List ℤ} {count : ℕ} (k : Marked L zs count) where
  abbrev ms : List Mark
  ms = look radius L

  number : length ms ≡ count
  number = sym (ap length k.marks) ∙ length-rows marks zs 0 count

  pub is_distinct : {t : Result ℕ TidyError} → t ≡ tidy_answer zs count → t ≡ Ok (length (tidy ms))
  unfolding tidy_answer
  is_distinct e = e ∙ rw (le-ltb (mark_room (length zs)) count k.room, k.marks)

  pub is_tidy : {t : Result ℕ TidyError} {n : ℕ} {ys : List ℤ} → t ≡ Ok n → ys ≡ tidy_list t zs count → Tidy L ys
  unfolding tidy_list
  is_tidy {ys = ys} e f =
      let ss = sort mark_order ms in
      let y : ys ≡ front marks (front marks zs ss) (tidy ms) = f ∙ rw (e, k.marks) in
      let s : length ss ≡ count = sort-length mark_order ms ∙ number in
      let one = length_front marks zs ss (omega (arith, k.room, s)) in
      let two = length_front marks (front marks zs ss) (tidy ms) (omega (arith, k.room, one, tidy-length ms, number)) in
      record {
        room = rw (y, two, one) (omega (arith, k.room, tidy-length ms, number));
        rows = rw y (rows-front marks (front marks zs ss) (tidy ms));
      }

  pub never_short : {t : Result ℕ TidyError} {e : TidyError} → t ≡ tidy_answer zs count → t ≡ Err e → ⊥
  never_short e h = let d = is_distinct e in cc

-- ---- splitting

of_pieces : (b : Bool) (k : ℕ) {p : ℕ} → ◌≡◌ {A = Result ℕ ApplyError} (cond b (Err Full) (Ok k)) (Ok p) → (b ≡ false) × (p ≡ k)
of_pieces true k h = cc
of_pieces false k h = (refl, cc)

of_full : (b : Bool) (k : ℕ) {e : ApplyError} → ◌≡◌ {A = Result ℕ ApplyError} (cond b (Err Full) (Ok k)) (Err e) → b ≡ true
of_full true k h = refl
of_full false k h = cc

-- the pieces of a look at L stand at the front of a list as long as xs
pub record Split (L : List Segment) (xs : List ℤ) (l p : ℕ) : Type 0 where
  pub fits : ltb (work_room l) (length L + length (tidy (look radius L))) ≡ false
  pub size : length xs ≡ l
  pub room : p ≤ work_room l
  pub rows : rows_from segments xs 0 p ≡ cut L

module _ (xs : List ℤ) (m : ℕ) (kept : Kept xs m) where
  abbrev L : List Segment
  L = rows_from segments xs 0 m

  abbrev over : Bool
  over = ltb (work_room (length xs)) (length L + length (tidy (look radius L)))

  module _ {zs : List ℤ} (t : Tidy L zs) where
    abbrev n : ℕ
    n = length (tidy (look radius L))

    ordered : in_order m (rows_from marks zs 0 n) ≡ true
    ordered = rw t.rows (subst (λ k. in_order k (tidy (look radius L)) ≡ true) (length-rows segments xs 0 m) (tidy_in_order (all_map (λ v s. s.good.0) kept.sound)))

    applied : {r : Result ℕ ApplyError} → r ≡ apply_answer xs m zs n → r ≡ cond over (Err Full) (Ok (m + n))
    unfolding apply_answer outcome
    applied e =
        e ∙ rw (le-ltb (work_room (length xs)) m kept.room, le-ltb (mark_room (length zs)) n t.room, ordered, clear (all_map (λ v. sound-near) kept.sound), length-rows segments xs 0 m)

    pub is_split : {r : Result ℕ ApplyError} {p : ℕ} {ys : List ℤ} → r ≡ apply_answer xs m zs n → r ≡ Ok p → ys ≡ apply_list r xs m zs n → Split L ys (length xs) p
    unfolding apply_list
    is_split {p = p} {ys = ys} e f g =
        let h = of_pieces over (m + n) (sym (applied e) ∙ f) in
        let c : length (cut L) ≡ m + n = ap (λ ks. length (split ks L)) (sym t.rows) ∙ number-split m n zs xs ordered in
        let y : ys ≡ front segments xs (cut L) = g ∙ rw (f, t.rows) in
        let l = length-rows segments xs 0 m in
        let room = ltb-false (work_room (length xs)) (length L + n) h.0 in
        record {
          fits = h.0;
          size = ap length y ∙ length_front segments xs (cut L) (omega (arith, c, room, l));
          room = omega (arith, h.1, room, l);
          rows = rw (y, h.1 ∙ sym c) (rows-front segments xs (cut L));
        }

    pub is_full : {r : Result ℕ ApplyError} {e : ApplyError} → r ≡ apply_answer xs m zs n → r ≡ Err e → over ≡ true
    is_full e h = of_full over (m + n) (sym (applied e) ∙ h)

  pub refuses_8 : over ≡ true → (f : List Segment → Ran) → split_at (work_room (length xs)) L f ≡ refused WorkFull
  unfolding split_at
  refuses_8 e f = rw e

  -- ---- joining

  module _ {ys : List ℤ} {p : ℕ} (s : Split L ys (length xs) p) where
    pub goes_on_lem : {r : Result ℕ TooBig} {k : ℕ} {zs : List ℤ} → r ≡ join_answer (rows_from segments ys 0 p) → r ≡ Ok k → zs ≡ join_list ys (rows_from segments ys 0 p)
        → ((f : List Segment → Ran) → split_at (work_room (length xs)) L f ≡ f (rows_from segments zs 0 k)) × Kept zs k
    unfolding split_at joined
    goes_on_lem e f g =
        let j = is_joined ys p s.rows (rw s.size s.room) (cut_is_good (all_map (λ v s. s.good) kept.sound)) e f g in
        (λ f. rw (s.fits, j.small, j.rows), j.kept)

    pub refuses_9 : {r : Result ℕ TooBig} {e : TooBig} → r ≡ join_answer (rows_from segments ys 0 p) → r ≡ Err e → (f : List Segment → Ran) → split_at (work_room (length xs)) L f ≡ refused Big
    unfolding split_at joined
    refuses_9 e h f = rw (s.fits, is_big ys p s.rows e h)
