-- Laws of a list that takes rows as long as there is room: in two parts (`all_append`), no room left (`all-full`), all in the end (`all-front`).
-- A loop that appends says of itself that the rows still to come make up what is promised: `Coming`, from `coming-all` by `coming-step` to `coming-none`, which
-- gives the promise `Added`; `coming-under` for a loop in a loop.
use Rattle.std.specs.Prelude.{◌≡◌, Bool, cond, ℤ}
use Rattle.std.proofs.Math.Path.{refl, sym, ap}
use Rattle.std.proofs.Common.{◌∙◌, add-zero, length-append}
use Rattle.std.proofs.Math.Bool.{true, false}
use mathlib.Core.List.{List, [], ◌∷◌, ◌++◌}
use Prim.Native.Nat.{ℕ, suc, ◌+◌, ◌≤◌}
use native.Mathlib.Omega.{arith}
use Rattle.std.proofs.Math.ListN.{length}
use borrow.Author.Tests.{le-ltb}
use Rattle.whole.specs.Kind.{Kind}
use Rattle.whole.specs.Append.{put_next, put_all, Added}

pub length_if : (t : Bool) (xs ys : List ℤ) → length ys ≡ length xs → length (cond t ys xs) ≡ length xs
length_if true xs ys e = e
length_if false xs ys e = refl

module _ {A : Type 0} (R : Kind A) where
  -- in two parts
  pub all_append : (room : ℕ) (xs : List ℤ) (k : ℕ) (vs ws : List A)
      → put_all R room xs k (vs ++ ws) ≡ put_all R room (put_all R room xs k vs) (k + length vs) ws
  unfolding put_all
  all_append room xs k [] ws = rw (add-zero k)
  all_append room xs k (v ∷ vs) ws =
      let e : k + suc (length vs) ≡ suc k + length vs = omega arith in
      rw e (all_append room (put_next R room xs k v) (suc k) vs ws)

  -- no room left
  pub all-full : (room : ℕ) (xs : List ℤ) (k : ℕ) (vs : List A) → room ≤ k → put_all R room xs k vs ≡ xs
  unfolding put_all put_next
  all-full room xs k [] h = refl
  all-full room xs k (v ∷ vs) h = rw (le-ltb k room h) (all-full room xs (suc k) vs (omega arith))

-- ---- rows that come after rows

pub added_more : {A : Type 0} {R : Kind A} {room count : ℕ} {xs : List ℤ} {vs : List A} {r : ℕ} {ys : List ℤ} {ws : List A} {q : ℕ} {zs : List ℤ}
    → Added R room count xs vs r ys → Added R room r ys ws q zs → Added R room count xs (vs ++ ws) q zs
added_more {R} {room} {count} {xs} {vs} {r} {ys} {ws} a b =
    record {
      number = b.number ∙ rw (a.number, length-append vs ws) (omega arith);
      list = b.list ∙ rw (a.number, a.list) (sym (all_append R room xs count vs ws));
    }

pub added_none : {A : Type 0} {R : Kind A} {room count : ℕ} {xs : List ℤ} → Added R room count xs [] count xs
unfolding put_all
added_none = record { number = omega arith; list = refl }

-- ---- rows still to come: with them the number and the list are those of all

pub record Coming {A : Type 0} (R : Kind A) (room : ℕ) (xs₀ : List ℤ) (count₀ : ℕ) (all : List A) (xs : List ℤ) (count : ℕ) (rest : List A) : Type 0
  where
    pub number : count + length rest ≡ count₀ + length all
    pub list : put_all R room xs count rest ≡ put_all R room xs₀ count₀ all
    pub kept : length xs ≡ length xs₀

pub coming-all : {A : Type 0} {R : Kind A} {room : ℕ} {xs : List ℤ} {count : ℕ} {all : List A} → Coming R room xs count all xs count all
coming-all = record { number = refl; list = refl; kept = refl }

module _
    {A : Type 0} {R : Kind A} {room : ℕ} {xs₀ : List ℤ} {count₀ : ℕ} {all : List A} {xs : List ℤ} {count : ℕ} {rest : List A}
    (c : Coming R room xs₀ count₀ all xs count rest)
  where
    pub coming-none : rest ≡ [] → Added R room count₀ xs₀ all count xs
    unfolding put_all
    coming-none e =
        record {
          number = omega (arith, c.number, ap length e);
          list = sym (ap (put_all R room xs count) e) ∙ c.list;
        }

    -- the same for a part of what is to come
    pub coming-under : {part : List A} {ys : List ℤ} {r : ℕ} {left : List A} (more : List A)
        → rest ≡ part ++ more → Coming R room xs count part ys r left → Coming R room xs₀ count₀ all ys r (left ++ more)
    coming-under {part} {ys} {r} {left} more e d =
        record {
          number = omega (arith, c.number, ap length e, length-append part more, length-append left more, d.number);
          list =
              all_append R room ys r left more
              ∙ ap (λ (l : List ℤ). put_all R room l (r + length left) more) d.list
              ∙ ap (λ (k : ℕ). put_all R room (put_all R room xs count part) k more) d.number
              ∙ sym (all_append R room xs count part more)
              ∙ ap (put_all R room xs count) (sym e)
              ∙ c.list;
          kept = d.kept ∙ c.kept;
        }
