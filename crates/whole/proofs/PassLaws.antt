-- A pass made in place, as a loop's invariant `Going`: n rows are written, the rows from i on are as they were, and what the pass still gives for them,
-- written from n on, makes the whole list. From `going_start` or `going-first`, by `going_skip` or `going_put` for each row, to `done` or `done_put`.
-- No row is written past the row that was read, n ≤ i, so nothing is lost.
use Rattle.std.specs.Prelude.{◌≡◌, refl, ℕ, ◌+◌, ◌-◌, ◌*◌, ◌≤◌, ◌<◌, ℤ}
use Rattle.std.proofs.Math.Path.{sym, ap}
use Rattle.std.proofs.Common.{◌∙◌, arith}
use mathlib.Core.List.{List, [], ◌∷◌, ◌++◌}
use Rattle.std.proofs.Math.Nat.{mul-le-mul_left}
use Rattle.std.proofs.Math.ListN.{length}
use Rattle.std.proofs.Math.Seq.{sets}
use Rattle.whole.specs.Kind.{Kind, row_at, put_row, flat, rows_from, front}
use Rattle.whole.specs.Pass.{Pass, pass}
use Rattle.whole.proofs.KindLaws.{length_put, sets_flat, sets_front, row-after, put_self, rows_step, rows-done}
use Rattle.whole.specs.PassLaws.{Going}

module _ {A S : Type 0} (R : Kind A) (P : Pass A S) where
  -- the first row stands
  pub going-first : (s : List ℤ) (m i : ℕ) (st : S) → R.width * (0 + 1) ≤ length s
      → (Going R P) s m (row_at R s 0 ∷ pass P st (rows_from R s i (m - i))) s 1 i st
  going-first s m i st f =
      let r = pass P st (rows_from R s i (m - i)) in
      record {
        kept = refl;
        ahead = λ k l. refl;
        number = omega arith;
        list = sym (sets_flat R s 0 (row_at R s 0) r ∙ ap (λ (l : List ℤ). sets l (R.width * 1) (flat R r)) (put_self R s 0 f));
      }

  module _ {s₀ : List ℤ} {m : ℕ} {all : List A} {s : List ℤ} {n i : ℕ} {st : S} (g : (Going R P) s₀ m all s n i st) where
    step : (q : A) → i < m → q ≡ row_at R s i
        → pass P st (rows_from R s₀ i (m - i)) ≡ P.emit st q ++ pass P (P.next st q) (rows_from R s₀ (i + 1) (m - (i + 1)))
    unfolding pass
    step q h e = ap (pass P st) (rows_step R s₀ m i h) ∙ rw (sym (e ∙ g.ahead i (omega arith)))

    -- a row that gives nothing
    pub going_skip : (q : A) → i < m → q ≡ row_at R s i → P.emit st q ≡ [] → (Going R P) s₀ m all s n (i + 1) (P.next st q)
    going_skip q h e z =
        let f = step q h e ∙ ap (λ (l : List A). l ++ pass P (P.next st q) (rows_from R s₀ (i + 1) (m - (i + 1)))) z in
        record {
          kept = g.kept;
          ahead = λ k l. g.ahead k (omega arith);
          number = ap (λ (l : List A). n + length l) (sym f) ∙ g.number;
          list = ap (λ (l : List A). sets s (R.width * n) (flat R l)) (sym f) ∙ g.list;
        }

    -- a row that gives one
    pub going_put : (q v : A) {ys : List ℤ} → i < m → q ≡ row_at R s i
        → P.emit st q ≡ v ∷ [] → n ≤ i → ys ≡ put_row R s n v
        → (Going R P) s₀ m all ys (n + 1) (i + 1) (P.next st q)
    going_put q v {ys} h e z l y =
        let r = pass P (P.next st q) (rows_from R s₀ (i + 1) (m - (i + 1))) in
        let f : pass P st (rows_from R s₀ i (m - i)) ≡ v ∷ r = step q h e ∙ ap (λ (l : List A). l ++ r) z in
        record {
          kept = rw y (length_put R s n v ∙ g.kept);
          ahead = λ k x. rw y (row-after R s n k v (omega arith) ∙ g.ahead k (omega arith));
          number = omega (arith, ap length f, g.number);
          list =
              ap (λ (t : List ℤ). sets t (R.width * (n + 1)) (flat R r)) y
              ∙ sym (sets_flat R s n v r)
              ∙ ap (λ (l : List A). sets s (R.width * n) (flat R l)) (sym f)
              ∙ g.list;
        }

    -- the end, where the state gives nothing
    pub done : m ≤ i → P.last st ≡ [] → n ≤ m → R.width * m ≤ length s₀ → (n ≡ length all) × (s ≡ front R s₀ all)
    unfolding pass flat
    done h z l f =
        let e : pass P st (rows_from R s₀ i (m - i)) ≡ [] = ap (pass P st) (rows-done R s₀ m i h) ∙ z in
        let k : length all ≡ n = omega (arith, g.number, ap length e) in
        let fits : R.width * length all ≤ length s₀ = rw k (omega (arith, mul-le-mul_left R.width l)) in
        (sym k, sym (ap (λ (l : List A). sets s (R.width * n) (flat R l)) e) ∙ g.list ∙ sets_front R s₀ all fits)

    -- and where it gives one row more
    pub done_put : (v : A) {ys : List ℤ} → m ≤ i → P.last st ≡ v ∷ [] → n + 1 ≤ m
        → R.width * m ≤ length s₀ → ys ≡ put_row R s n v
        → (n + 1 ≡ length all) × (ys ≡ front R s₀ all)
    unfolding pass flat
    done_put v {ys} h z l f y =
        let e : pass P st (rows_from R s₀ i (m - i)) ≡ v ∷ [] = ap (pass P st) (rows-done R s₀ m i h) ∙ z in
        let k : length all ≡ n + 1 = omega (arith, g.number, ap length e) in
        let fits : R.width * length all ≤ length s₀ = rw k (omega (arith, mul-le-mul_left R.width l)) in
        (sym k, y ∙ sym (sets_flat R s n v []) ∙ sym (ap (λ (l : List A). sets s (R.width * n) (flat R l)) e) ∙ g.list ∙ sets_front R s₀ all fits)
