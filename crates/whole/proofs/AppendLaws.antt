-- Laws of a list that takes rows as long as there is room: in two parts (`all_append`), no room left (`all-full`), all in the end (`all-front`).
-- A loop that appends says of itself that the rows still to come make up what is promised: `Coming`, from `coming-all` by `coming-step` to `coming-none`, which
-- gives the promise `Added`; `coming-under` for a loop in a loop.
use Rattle.std.specs.Prelude.{◌≡◌, Bool, ℤ, take}
use Rattle.std.proofs.Math.Path.{refl, sym, ap}
use Rattle.std.proofs.Common.{◌∙◌, mul-le-mul_left, add-one, length-append, take_all}
use Rattle.std.proofs.Math.Bool.{true, false}
use mathlib.Core.List.{List, [], ◌∷◌, ◌++◌}
use Prim.Native.Nat.{ℕ, suc, ◌-◌, ◌*◌, ◌≤◌, ◌<◌}
use Rattle.std.proofs.Math.Nat.{sub-zero}
use native.Mathlib.Omega.{arith}
use Rattle.std.proofs.Math.Dec.{ltb}
use Rattle.std.proofs.Math.ListN.{length}
use Rattle.std.proofs.Math.Seq.{sets, take-nil}
use borrow.Author.Tests.{ltb-true, ltb-false}
use Rattle.whole.specs.Kind.{Kind, put_row, flat, front}
use Rattle.whole.specs.Append.{put_next, put_all, Added}
use Rattle.whole.proofs.KindLaws.{length_put, sets_flat, sets_front}
use Rattle.whole.specs.AppendLaws.{Coming, all-full, all_append, length_if}

module _ {A : Type 0} (R : Kind A) where
  length-next : (room : ℕ) (xs : List ℤ) (k : ℕ) (v : A) → length (put_next R room xs k v) ≡ length xs
  unfolding put_next
  length-next room xs k v = length_if (ltb k room) xs (put_row R xs k v) (length_put R xs k v)

  pub length-all : (room : ℕ) (xs : List ℤ) (k : ℕ) (vs : List A) → length (put_all R room xs k vs) ≡ length xs
  unfolding put_all
  length-all room xs k [] = refl
  length-all room xs k (v ∷ vs) = length-all room (put_next R room xs k v) (suc k) vs ∙ length-next room xs k v

  -- those that fit stand one after the other, from number k on
  pub all-flat : (room : ℕ) (xs : List ℤ) (k : ℕ) (vs : List A) → put_all R room xs k vs ≡ sets xs (R.width * k) (flat R (take (room - k) vs))
  unfolding put_all put_next flat
  all-flat room xs k [] = rw (take-nil (room - k))
  all-flat room xs k (v ∷ vs) = by_room (ltb k room) refl (all-flat room (put_row R xs k v) (suc k) vs)
    where
      by_room : (t : Bool) → ltb k room ≡ t
          → put_all R room (put_row R xs k v) (suc k) vs ≡ sets (put_row R xs k v) (R.width * suc k) (flat R (take (room - suc k) vs))
          → put_all R room xs k (v ∷ vs) ≡ sets xs (R.width * k) (flat R (take (room - k) (v ∷ vs)))
      by_room true q more =
          let h : k < room = ltb-true k room q in
          let e : room - k ≡ suc (room - suc k) = omega arith in
          let s = sets_flat R xs k v (take (room - suc k) vs) in
          rw (q, e) (more ∙ ap (λ (n : ℕ). sets (put_row R xs k v) (R.width * n) (flat R (take (room - suc k) vs))) (sym (add-one k)) ∙ sym s)
      by_room false q more =
          let h : room ≤ k = ltb-false k room q in
          let e : room - k ≡ 0 = omega arith in
          rw (e, q) ((all-full R) room xs (suc k) vs (omega arith))

  -- all from the front, where there is room
  pub all-front : (room : ℕ) (xs : List ℤ) (vs : List A) → length vs ≤ room → R.width * room ≤ length xs → put_all R room xs 0 vs ≡ front R xs vs
  all-front room xs vs h l =
      all-flat room xs 0 vs
      ∙ ap (λ (l : List A). sets xs (R.width * 0) (flat R l)) (ap (λ (k : ℕ). take k vs) (sub-zero room) ∙ take_all room vs h)
      ∙ sets_front R xs vs (omega (arith, mul-le-mul_left R.width h))

module _
    {A : Type 0} {R : Kind A} {room : ℕ} {xs₀ : List ℤ} {count₀ : ℕ} {all : List A} {xs : List ℤ} {count : ℕ} {rest : List A}
    (c : Coming R room xs₀ count₀ all xs count rest)
  where
    pub coming-step : {vs more : List A} {r : ℕ} {ys : List ℤ} → rest ≡ vs ++ more → Added R room count xs vs r ys → Coming R room xs₀ count₀ all ys r more
    coming-step {vs} {more} e a =
        record {
          number = rw a.number (omega (arith, c.number, ap length e, length-append vs more));
          list = rw (a.number, a.list) (sym (all_append R room xs count vs more) ∙ ap (put_all R room xs count) (sym e) ∙ c.list);
          kept = rw a.list (length-all R room xs count vs ∙ c.kept);
        }
