-- What a look says of the run: on a list that keeps what every list keeps 7 is its only refusal, and its marks stand at the front of the mark list.
use mathlib.Core.Path.{◌≡◌, refl, sym, ap, ◌∙◌}
use mathlib.Core.Bool.{Bool, true, false, cond}
use mathlib.Core.List.{List}
use mathlib.Core.Logic.{◌≢◌}
use Prim.Native.Nat.{ℕ, ◌+◌, ◌*◌}
use native.Mathlib.Numerals.{add-one}
use native.Mathlib.Omega.{arith}
use lib.Dec.{ltb, eqb}
use lib.IntN.{ℤ}
use lib.ListN.{length}
use borrow.Author.Tests.{ltb-false, le-ltb, eq-eqb, ne_eqb}
use Rattle.whole.specs.Kind.{rows_from}
use Rattle.whole.proofs.KindLaws.{length-rows, rows-front, length_front}
use Rattle.whole.proofs.SumLaws.{all_map}
use Rattle.geom.specs.declared.Segment.{Segment}
use Rattle.geom.specs.Limits.{segment_limit, work_room, mark_room}
use Rattle.geom.specs.Rows.{segments}
use Rattle.split.specs.declared.answer.Mark.{Mark}
use Rattle.std.specs.Prelude.{Result, Ok, Err}
use Rattle.split.specs.declared.answer.LookError.{LookError}
use Rattle.split.specs.declared.answer.LookError.TheVariants.{MarksFull}
use Rattle.split.specs.Marks.{marks}
use Rattle.split.specs.Look.{look}
use Rattle.split.specs.Looked.{counted, look_answer}
use Rattle.pairwise.specs.Listed.{look_list}
use Rattle.overlay.specs.declared.answer.Refusal.TheVariants.{MarksFull as Full, Unsettled}
use Rattle.overlay.specs.Looks.{Ran, settled, refused, radius, look_at}
use Rattle.settle.specs.Kept.{Kept, Marked}
use Rattle.settle.specs.Step.{split_at}
use Rattle.settle.proofs.Sound.{clear, sound_on, sound-long}

of_marks : (b : Bool) (n : ℕ) {k : ℕ} → ◌≡◌ {A = Result ℕ LookError} (cond b (Err MarksFull) (Ok n)) (Ok k) → (b ≡ false) × (k ≡ n)
of_marks true n h = cc
of_marks false n h = (refl, cc)

of_full : (b : Bool) (n : ℕ) {e : LookError} → ◌≡◌ {A = Result ℕ LookError} (cond b (Err MarksFull) (Ok n)) (Err e) → b ≡ true
of_full true n h = refl
of_full false n h = cc

module _ (xs : List ℤ) (m : ℕ) (kept : Kept xs m) where
  abbrev L : List Segment
  L = rows_from segments xs 0 m

  abbrev ms : List Mark
  ms = look radius L

  module _ (zs : List ℤ) where
    abbrev full : Bool
    full = ltb (mark_room (length zs)) (length ms)

    looked : {r : Result ℕ LookError} → r ≡ look_answer radius xs m zs → r ≡ cond full (Err MarksFull) (Ok (length ms))
    unfolding look_answer counted
    looked e =
        let few = le-ltb segment_limit m (omega (arith, kept.room)) in
        let rows = le-ltb (length xs) (6 * m) (omega (arith, kept.room)) in
        e ∙ rw (few, rows, clear (all_map (λ v. sound_on) kept.sound), clear (all_map (λ v. sound-long) kept.sound))

    is_full : {r : Result ℕ LookError} {e : LookError} → r ≡ look_answer radius xs m zs → r ≡ Err e → full ≡ true
    is_full e h = of_full full (length ms) (sym (looked e) ∙ h)

    -- the look yields so many marks, and there is room for them
    pub record Found (count : ℕ) : Type 0 where
      pub fits : full ≡ false
      pub number : count ≡ length ms

    pub found : {r : Result ℕ LookError} {count : ℕ} → r ≡ look_answer radius xs m zs → r ≡ Ok count → Found count
    found e f = let h = of_marks full (length ms) (sym (looked e) ∙ f) in record { fits = h.0; number = h.1 }

    pub is_marked : {r : Result ℕ LookError} {count : ℕ} {ys : List ℤ} → Found count → r ≡ Ok count → ys ≡ look_list r ms zs → Marked L ys count
    unfolding look_list
    is_marked {count = count} {ys = ys} h f g =
        let room = ltb-false (mark_room (length zs)) (length ms) h.fits in
        let y = g ∙ ap (λ r. look_list r ms zs) f in
        record {
          room = rw (y, length_front marks zs ms (omega (arith, room))) (omega (arith, room, h.number));
          marks = rw (y, h.number) (rows-front marks zs ms);
        }

    -- ---- what the run comes to

    module _ (last : Bool) (made : ℕ) (f : List Segment → Ran) where
      abbrev comes : Ran
      comes = look_at (mark_room (length zs)) (work_room (length xs)) last made L f

      pub no_rows : m ≡ 0 → comes ≡ settled (rows_from segments xs 0 0) made
      unfolding look_at
      no_rows e = rw (eq-eqb (length L) 0 (length-rows segments xs 0 m ∙ e), e)

      module _ (some : m ≢ 0) where
        abbrev not_empty : eqb (length L) 0 ≡ false
        not_empty = ne_eqb (length L) 0 (λ e. some (sym (length-rows segments xs 0 m) ∙ e))

        pub refuses_7 : {r : Result ℕ LookError} {e : LookError} → r ≡ look_answer radius xs m zs → r ≡ Err e → comes ≡ refused Full
        unfolding look_at
        refuses_7 e h = rw (not_empty, is_full e h)

        module _ {count : ℕ} (h : Found count) where
          pub settles : count ≡ 0 → comes ≡ settled L (made + 1)
          unfolding look_at
          settles e = rw (add-one, not_empty, h.fits, eq-eqb (length ms) 0 (sym h.number ∙ e))

          module _ (marked : count ≢ 0) where
            abbrev has_marks : eqb (length ms) 0 ≡ false
            has_marks = ne_eqb (length ms) 0 (λ e. marked (h.number ∙ e))

            pub refuses_10 : last ≡ true → comes ≡ refused Unsettled
            unfolding look_at
            refuses_10 e = rw (not_empty, h.fits, has_marks, e)

            pub splits : last ≡ false → comes ≡ split_at (work_room (length xs)) L f
            unfolding look_at split_at
            splits e = rw (not_empty, h.fits, has_marks, e)
