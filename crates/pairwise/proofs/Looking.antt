-- What is left of a look at the pair (i, j), as the pair loops go on; how the loops are left, and what the look then answers.
use mathlib.Core.Path.{◌≡◌, sym, ap, ◌∙◌}
use mathlib.Core.Bool.{false}
use mathlib.Core.List.{List, [], ◌++◌}
use mathlib.Core.Logic.{◌⊎◌, ⊎_elim}
use Prim.Native.Nat.{ℕ, ◌+◌, ◌-◌, ◌*◌, ◌≤◌, ◌<◌}
use native.Mathlib.Nat.{not-le_of_lt}
use native.Mathlib.Numerals.{add-one}
use native.Mathlib.Omega.{arith}
use lib.Dec.{ltb}
use lib.IntN.{ℤ, pos}
use lib.ListN.{length, replicate}
use borrow.Author.Tests.{lt-ltb, le-ltb}
use Rattle.whole.specs.Append.{Added}
use Rattle.whole.specs.AppendLaws.{Coming, coming-none}
use Rattle.whole.proofs.AppendLaws.{all-front, coming-step}
use Rattle.whole.specs.Kind.{row_at, rows_from}
use Rattle.whole.proofs.KindLaws.{rows_step, rows-done}
use Rattle.geom.specs.declared.Segment.{Segment}
use Rattle.geom.specs.Limits.{mark_room}
use Rattle.geom.specs.Rows.{segments}
use Rattle.std.specs.Prelude.{Ok, Err}
use Rattle.split.specs.declared.answer.LookError.TheVariants.{MarksFull}
use Rattle.split.specs.declared.answer.Mark.{Mark}
use Rattle.split.specs.Marks.{marks}
use Rattle.split.specs.Look.{pair_marks, marks_with, look_from}
use Rattle.split.specs.Looked.{counted}
use Rattle.pairwise.specs.Listed.{look_list}

module _ (radius : ℕ) (w : List ℤ) where
  -- target i with the k others from j on, and the k targets from i on
  abbrev pub with_others : ℕ → ℕ → ℕ → List Mark
  with_others i j k = marks_with radius i (row_at segments w i) j (rows_from segments w j k)

  abbrev pub from_target : ℕ → ℕ → List Mark
  from_target i k = look_from radius i (rows_from segments w i k)

  module _ (n : ℕ) where
    other_step : (i j : ℕ) → j < n
        → with_others i j (n - j) ≡ pair_marks radius i j (row_at segments w i) (row_at segments w j) ++ with_others i (j + 1) (n - (j + 1))
    unfolding marks_with
    other_step i j h = rw (rows_step segments w n j h, add-one j)

    pub others_done : (i j : ℕ) → n ≤ j → with_others i j (n - j) ≡ []
    unfolding marks_with
    others_done i j h = rw (rows-done segments w n j h)

    pub target-step : (i : ℕ) → i < n → from_target i (n - i) ≡ with_others i (i + 1) (n - (i + 1)) ++ from_target (i + 1) (n - (i + 1))
    unfolding look_from
    target-step i h = rw (rows_step segments w n i h, add-one i)

    pub targets_done : (i : ℕ) → n ≤ i → from_target i (n - i) ≡ []
    unfolding look_from
    targets_done i h = rw (rows-done segments w n i h)

    -- one pair more
    pub pair_step : (i j : ℕ) → j < n → {t o : Segment} → t ≡ row_at segments w i → o ≡ row_at segments w j
        → {room : ℕ} {xs₀ : List ℤ} {count₀ : ℕ} {all : List Mark} {xs : List ℤ} {count : ℕ} {r : ℕ} {ys : List ℤ}
        → Coming marks room xs₀ count₀ all xs count (with_others i j (n - j)) → Added marks room count xs (pair_marks radius i j t o) r ys
        → Coming marks room xs₀ count₀ all ys r (with_others i (j + 1) (n - (j + 1)))
    pair_step i j h {t} {o} p q c a =
        let e : pair_marks radius i j (row_at segments w i) (row_at segments w j) ≡ pair_marks radius i j t o =
        ap (λ (u : Segment). pair_marks radius i j u (row_at segments w j)) (sym p) ∙ ap (pair_marks radius i j t) (sym q) in
        coming-step c (other_step i j h ∙ ap (λ (l : List Mark). l ++ with_others i (j + 1) (n - (j + 1))) e) a

-- how the pair loops are left: nothing to come, or no room for what came
pub record Left (room : ℕ) (xs₀ : List ℤ) (all : List Mark) (xs : List ℤ) (count : ℕ) : Type 0 where
  pub rest : List Mark
  pub coming : Coming marks room xs₀ 0 all xs count rest
  pub why : (rest ≡ []) ⊎ (room < count)

pub room_fits : (l : ℕ) → 3 * mark_room l ≤ l
room_fits l = omega arith

module _ {room : ℕ} {xs : List ℤ} {all : List Mark} {ys : List ℤ} {count : ℕ} (l : Left room xs all ys count) where
  pub answer-full : {zs : List ℤ} → room < count → room ≡ mark_room (length xs) → zs ≡ replicate (length ys) (pos 0)
      → (Err MarksFull ≡ counted (mark_room (length xs)) all) × (zs ≡ look_list (Err MarksFull) all xs)
  unfolding counted look_list
  answer-full h e z =
      let more : room < length all = omega (arith, l.coming.number) in
      (rw (← e, lt-ltb room (length all) more), z ∙ rw l.coming.kept)

  pub answer-marks : count ≤ room → room ≡ mark_room (length xs)
      → (Ok count ≡ counted (mark_room (length xs)) all) × (ys ≡ look_list (Ok count) all xs)
  unfolding counted look_list
  answer-marks h e = ⊎_elim (λ q. all_came (coming-none l.coming q)) (λ q. absurd (not-le_of_lt q h)) l.why
    where
      all_came : Added marks room 0 xs all count ys → (Ok count ≡ counted (mark_room (length xs)) all) × (ys ≡ look_list (Ok count) all xs)
      all_came a =
          let n : length all ≡ count = omega (arith, a.number) in
          let t : ltb room (length all) ≡ false = le-ltb room (length all) (omega arith) in
          let f : 3 * room ≤ length xs = rw e (room_fits (length xs)) in
          (rw (← e, t, n), a.list ∙ all-front marks room xs all (omega arith) f)
