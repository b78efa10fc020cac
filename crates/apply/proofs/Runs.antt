-- The runs of the marks of each segment. `Edge` says where the marks of the segments from number i on start. Marks in order never go back to a lower segment, so
-- what lies between two edges is the run of one segment, and holds its marks and no others (`run_points`).
use mathlib.Core.Path.{◌≡◌, refl, sym, ap, ap₂, ◌∙◌}
use mathlib.Core.Bool.{Bool, true, false, cond, ◌&&◌, true≢false}
use mathlib.Core.List.{List, [], ◌∷◌, ◌++◌, map, append-nil}
use mathlib.Core.Logic.{⊎_elim}
use Prim.Native.Nat.{ℕ, zero, suc, ◌+◌, ◌-◌, ◌≤◌, ◌<◌}
use native.Mathlib.Omega.{arith}
use lib.IntN.{ℤ, pos}
use lib.Signed.{lt_z, ◌<ℤ◌, ◌≤ℤ◌}
use Rattle.whole.specs.Order.{zz}
use Rattle.whole.specs.Total.{same_or, side}
use Rattle.whole.specs.Test.{lt_gt}
use Rattle.whole.proofs.TestLaws.{and_l, and_r, lt_of, lt_not}
use Rattle.whole.specs.Kind.{row_at, rows_from}
use Rattle.whole.proofs.KindLaws.{rows_append}
use Rattle.whole.specs.Sum.{keep}
use Rattle.whole.proofs.SumLaws.{keep_append}
use Rattle.whole.proofs.SignLaws.{lt_or_le}
use Rattle.geom.specs.Plane.{sameZ}
use Rattle.geom.specs.Tests.{when_true, when_false, fails, unless, lt?, same?}
use Rattle.split.specs.declared.answer.Mark.{Mark}
use Rattle.split.specs.Marks.{marks}
use Rattle.split.specs.Chain.{points_of}
use Rattle.apply.specs.Answer.{names, earlier, leads, in_order}
use Rattle.chains.specs.Steps.{points}
use Rattle.apply.specs.Start.{start_of}

-- ---- from the end of a run to its start

pub start-more : (i : ℕ) (zs : List ℤ) (a : ℕ) → 0 < a → sameZ (row_at marks zs (a - 1)).segment (pos i) ≡ true → start_of i zs a ≡ start_of i zs (a - 1)
unfolding start_of
start-more i zs zero h t = absurd (omega arith)
start-more i zs (suc a) h t = let e : suc a - 1 ≡ a = omega arith in rw (e, rw e at t)

pub start-here : (i : ℕ) (zs : List ℤ) (a : ℕ) → 0 < a → sameZ (row_at marks zs (a - 1)).segment (pos i) ≡ false → start_of i zs a ≡ a
unfolding start_of
start-here i zs zero h t = absurd (omega arith)
start-here i zs (suc a) h t = let e : suc a - 1 ≡ a = omega arith in rw (rw e at t)

pub start_none : (i : ℕ) (zs : List ℤ) (a : ℕ) → a ≤ 0 → start_of i zs a ≡ a
unfolding start_of
start_none i zs zero h = refl
start_none i zs (suc a) h = absurd (omega arith)

module _ (i : ℕ) (zs : List ℤ) where
  pub start-le : (e : ℕ) → start_of i zs e ≤ e
  unfolding start_of
  start-le zero = omega arith
  start-le (suc e) = by_test (sameZ (row_at marks zs e).segment (pos i)) (start-le e)
    where
      by_test : (t : Bool) → start_of i zs e ≤ e → cond t (start_of i zs e) (suc e) ≤ suc e
      by_test true h = omega arith
      by_test false h = omega arith

  -- the marks of the run are of segment i
  pub start_in : (e j : ℕ) → start_of i zs e ≤ j → j < e → sameZ (row_at marks zs j).segment (pos i) ≡ true
  unfolding start_of
  start_in zero j h k = absurd (omega arith)
  start_in (suc e) j h k = by_test (sameZ (row_at marks zs e).segment (pos i)) refl h (start_in e j)
    where
      by_test : (t : Bool) → sameZ (row_at marks zs e).segment (pos i) ≡ t → cond t (start_of i zs e) (suc e) ≤ j
          → (start_of i zs e ≤ j → j < e → sameZ (row_at marks zs j).segment (pos i) ≡ true) → sameZ (row_at marks zs j).segment (pos i) ≡ true
      by_test true q h more = ⊎_elim (λ (d : j ≡ e). rw d q) (λ d. more h (omega arith)) (same_or j e)
      by_test false q h more = absurd (omega arith)

  -- and the one before it is not
  pub start_out : (e : ℕ) → 0 < start_of i zs e → sameZ (row_at marks zs (start_of i zs e - 1)).segment (pos i) ≡ false
  unfolding start_of
  start_out zero h = absurd (omega arith)
  start_out (suc e) h = by_test (sameZ (row_at marks zs e).segment (pos i)) refl h (start_out e)
    where
      by_test : (t : Bool) → sameZ (row_at marks zs e).segment (pos i) ≡ t → 0 < cond t (start_of i zs e) (suc e)
          → (0 < start_of i zs e → sameZ (row_at marks zs (start_of i zs e - 1)).segment (pos i) ≡ false)
          → sameZ (row_at marks zs (cond t (start_of i zs e) (suc e) - 1)).segment (pos i) ≡ false
      by_test true q h more = more h
      by_test false q h more = let d : suc e - 1 ≡ e = omega arith in rw d q

-- ---- those of some rows that pass a test

module _ (zs : List ℤ) (p : Mark → Bool) where
  keep-none : (k i : ℕ) → ((j : ℕ) → i ≤ j → j < i + k → p (row_at marks zs j) ≡ false) → keep p (rows_from marks zs i k) ≡ []
  unfolding keep rows_from
  keep-none zero i h = refl
  keep-none (suc k) i h = rw (h i (omega arith) (omega arith)) (keep-none k (suc i) (λ j q r. h j (omega arith) (omega arith)))

  keep-whole : (k i : ℕ) → ((j : ℕ) → i ≤ j → j < i + k → p (row_at marks zs j) ≡ true) → keep p (rows_from marks zs i k) ≡ rows_from marks zs i k
  unfolding keep rows_from
  keep-whole zero i h = refl
  keep-whole (suc k) i h =
      rw (h i (omega arith) (omega arith)) (ap (λ (l : List Mark). row_at marks zs i ∷ l) (keep-whole k (suc i) (λ j q r. h j (omega arith) (omega arith))))

-- ---- marks in order

not_later : (m k : Mark) → earlier m k ≡ true → m.segment ≤ℤ k.segment
unfolding earlier
not_later m k h = by_test (lt_z k.segment m.segment) refl
  where
    by_test : (t : Bool) → lt_z k.segment m.segment ≡ t → m.segment ≤ℤ k.segment
    by_test true q = let g : k.segment <ℤ m.segment = lt_of {a = k.segment} {b = m.segment} q in absurd (true≢false (sym (rw (lt_gt g, q) at h)))
    by_test false q = lt_not {a = k.segment} {b = m.segment} q

module _ (n : ℕ) (zs : List ℤ) where
  abbrev seg : ℕ → ℤ
  seg j = (row_at marks zs j).segment

  ordered_step : (i k : ℕ) → in_order n (rows_from marks zs i (suc k)) ≡ true
      → (names n (row_at marks zs i) ≡ true) × (leads (row_at marks zs i) (rows_from marks zs (suc i) k) ≡ true) × (in_order n (rows_from marks zs (suc i) k) ≡ true)
  unfolding in_order rows_from
  ordered_step i k h =
      let a = names n (row_at marks zs i) in
      let b = leads (row_at marks zs i) (rows_from marks zs (suc i) k) in
      let c = in_order n (rows_from marks zs (suc i) k) in
      (and_l a b (and_l (a && b) c h), and_r a b (and_l (a && b) c h), and_r (a && b) c h)

  named_at : (k i : ℕ) → in_order n (rows_from marks zs i k) ≡ true → (j : ℕ) → i ≤ j → j < i + k → (seg j <ℤ pos 0 → ⊥) × (seg j <ℤ pos n)
  unfolding names
  named_at zero i h j p q = absurd (omega arith)
  named_at (suc k) i h j p q =
      ⊎_elim
      (λ (e : j ≡ i). rw e (when_true (unless (lt? (seg i) (pos 0)) (lt? (seg i) (pos n))) (ordered_step i k h).0))
      (λ e. named_at k (suc i) (ordered_step i k h).2 j (omega arith) (omega arith))
      (same_or j i)

  next-earlier : (i k : ℕ) → leads (row_at marks zs i) (rows_from marks zs (suc i) (suc k)) ≡ true → seg i ≤ℤ seg (suc i)
  unfolding leads rows_from
  next-earlier i k h = not_later (row_at marks zs i) (row_at marks zs (suc i)) h

  seg-next : (k i : ℕ) → in_order n (rows_from marks zs i k) ≡ true → (j : ℕ) → i ≤ j → suc j < i + k → seg j ≤ℤ seg (suc j)
  seg-next zero i h j p q = absurd (omega arith)
  seg-next (suc zero) i h j p q = absurd (omega arith)
  seg-next (suc (suc k)) i h j p q =
      ⊎_elim
      (λ (e : j ≡ i). rw e (next-earlier i k (ordered_step i (suc k) h).1))
      (λ e. seg-next (suc k) (suc i) (ordered_step i (suc k) h).2 j (omega arith) (omega arith))
      (same_or j i)

  seg_up : (count : ℕ) → in_order n (rows_from marks zs 0 count) ≡ true → (d j : ℕ) → j + d < count → seg j ≤ℤ seg (j + d)
  seg_up count h zero j q = let z : j + 0 ≡ j = omega arith in rw z (omega zz)
  seg_up count h (suc d) j q =
      let s : j + suc d ≡ suc (j + d) = omega arith in
      let m = seg_up count h d j (omega arith) in
      let t = seg-next count 0 h (j + d) (omega arith) (omega arith) in
      rw s (omega (zz, m, t))

-- ---- where the marks of the segments from number i on start

pub record Edge (zs : List ℤ) (count i e : ℕ) : Type 0 where
  pub low : (j : ℕ) → j < e → (row_at marks zs j).segment <ℤ pos i
  pub high : (j : ℕ) → e ≤ j → j < count → pos i ≤ℤ (row_at marks zs j).segment

pub edge-all : (n : ℕ) (zs : List ℤ) (count : ℕ) → in_order n (rows_from marks zs 0 count) ≡ true → Edge zs count n count
edge-all n zs count h = record { low = λ j q. (named_at n zs count 0 h j (omega arith) (omega arith)).1; high = λ j p q. absurd (omega arith) }

pub edge_none : (n : ℕ) (zs : List ℤ) (count : ℕ) → in_order n (rows_from marks zs 0 count) ≡ true → (e : ℕ) → e ≤ count → Edge zs count 0 e → e ≡ 0
edge_none n zs count h zero k d = refl
edge_none n zs count h (suc e) k d = absurd ((named_at n zs count 0 h 0 (omega arith) (omega arith)).0 (d.low 0 (omega arith)))

module _ (n : ℕ) (zs : List ℤ) (count : ℕ) (h : in_order n (rows_from marks zs 0 count) ≡ true) (i e : ℕ) (k : e ≤ count) (d : Edge zs count (i + 1) e) where
  abbrev a : ℕ
  a = start_of i zs e

  is_here : (j : ℕ) → a ≤ j → j < e → (row_at marks zs j).segment ≡ pos i
  is_here j p q = when_true (same? (row_at marks zs j).segment (pos i)) (start_in i zs e j p q)

  -- the marks before the run are of lower segments: none is over the one just before it, which is not of segment i
  under : (j : ℕ) → j < a → (row_at marks zs j).segment <ℤ pos i
  under j q =
      let le = start-le i zs e in
      let not-here = when_false (same? (seg n zs (a - 1)) (pos i)) (start_out i zs e (omega arith)) in
      let f : j + (a - 1 - j) ≡ a - 1 = omega arith in
      let up : seg n zs j ≤ℤ seg n zs (a - 1) = rw f at (seg_up n zs count h (a - 1 - j) j (omega arith)) in
      let low = d.low (a - 1) (omega arith) in
      ⊎_elim
      (λ (p : seg n zs (a - 1) <ℤ pos i). omega (zz, up, p))
      (λ (p : pos i ≤ℤ seg n zs (a - 1)). absurd (not-here (omega (zz, low, p))))
      (lt_or_le (seg n zs (a - 1)) (pos i))

  pub edge-next : Edge zs count i a
  edge-next =
      record {
        low = under;
        high = λ j p q.
            ⊎_elim
            (λ (r : e ≤ j). let t = d.high j r q in omega (zz, t))
            (λ (r : j < e). let t = is_here j p r in omega (zz, t))
            (side e j);
      }

  -- the run holds the marks of segment i
  pub run_points : points_of i (rows_from marks zs 0 count) ≡ points zs a (e - a)
  unfolding points_of
  run_points = ap (map (λ m. m.point)) run
    where
      is : Mark → Bool
      is m = sameZ m.segment (pos i)

      run : keep is (rows_from marks zs 0 count) ≡ rows_from marks zs a (e - a)
      run =
          let le = start-le i zs e in
          let f : count ≡ a + ((e - a) + (count - e)) = omega arith in
          let z : 0 + a ≡ a = omega arith in
          let y : a + (e - a) ≡ e = omega arith in
          let cut : rows_from marks zs 0 count ≡ rows_from marks zs 0 a ++ (rows_from marks zs a (e - a) ++ rows_from marks zs e (count - e)) =
          ap (rows_from marks zs 0) f
          ∙ rows_append marks zs 0 a ((e - a) + (count - e))
          ∙ ap (λ (t : ℕ). rows_from marks zs 0 a ++ rows_from marks zs t ((e - a) + (count - e))) z
          ∙ ap (λ (t : List Mark). rows_from marks zs 0 a ++ t) (rows_append marks zs a (e - a) (count - e) ∙ ap (λ (t : ℕ). rows_from marks zs a (e - a) ++ rows_from marks zs t (count - e)) y) in
          ap (keep is) cut
          ∙ keep_append is (rows_from marks zs 0 a) (rows_from marks zs a (e - a) ++ rows_from marks zs e (count - e))
          ∙ ap₂ ◌++◌
          (keep-none zs is a 0 (λ j p q. let t = under j (omega arith) in fails (same? (row_at marks zs j).segment (pos i)) (λ r. omega (zz, t, r))))
          (keep_append is (rows_from marks zs a (e - a)) (rows_from marks zs e (count - e))
          ∙ ap₂ ◌++◌
          (keep-whole zs is (e - a) a (λ j p q. start_in i zs e j p (omega arith)))
          (keep-none zs is (count - e) e (λ j p q. let t = d.high j p (omega arith) in fails (same? (row_at marks zs j).segment (pos i)) (λ r. omega (zz, t, r)))))
          ∙ append-nil (rows_from marks zs a (e - a))
