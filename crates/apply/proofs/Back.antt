-- The list written from its back: with the pieces of the segments from number i + 1 on behind those of segment i, it holds the pieces from number i on.
use mathlib.Core.Path.{◌≡◌, sym, ap, subst, ◌∙◌}
use mathlib.Core.Bool.{true}
use mathlib.Core.List.{List, ◌++◌}
use Prim.Native.Nat.{ℕ, zero, suc, ◌+◌, ◌-◌, ◌≤◌, ◌<◌}
use native.Mathlib.Nat.{sub-zero}
use native.Mathlib.Numerals.{add-one}
use native.Mathlib.Omega.{arith}
use lib.IntN.{ℤ}
use lib.ListN.{length, length-append}
use Rattle.whole.specs.Kind.{row_at, rows_from, flat}
use Rattle.whole.proofs.KindLaws.{rows_step, rows-done}
use Rattle.geom.specs.declared.Point.{Point}
use Rattle.geom.specs.declared.Segment.{Segment}
use Rattle.geom.specs.Rows.{segments}
use Rattle.split.specs.declared.answer.Mark.{Mark}
use Rattle.split.specs.Marks.{marks}
use Rattle.split.specs.Chain.{points_of, chain, pieces_from, split_from, split}
use Rattle.apply.specs.Answer.{in_order}
use Rattle.apply.specs.Start.{start_of}
use Rattle.chains.specs.Number.{length_cut}
use Rattle.chains.proofs.Points.{length-points}
use Rattle.chains.proofs.Pieces.{rows_at, rows_before}
use Rattle.apply.proofs.Runs.{start-le, Edge, edge-all, edge_none, edge-next, run_points}

-- the pieces of the segments from number i to n
abbrev pub pieces_on : List Mark → List ℤ → ℕ → ℕ → List Segment
pieces_on ms l n i = split_from i ms (rows_from segments l i (n - i))

pub none_yet : (ms : List Mark) (l : List ℤ) (n k : ℕ) → l ≡ rows_at l k (pieces_on ms l n n)
unfolding split_from flat
none_yet ms l n k = rw (rows-done segments l n n (omega arith))

pub cut_step : (ms : List Mark) (l₀ l : List ℤ) (n i e a : ℕ) {v : Segment} {ps : List Point} {m : List ℤ} → i < n → a ≤ e
    → l ≡ rows_at l₀ (i + 1 + e) (pieces_on ms l₀ n (i + 1)) → v ≡ row_at segments l₀ i → points_of i ms ≡ ps → length ps ≡ e - a
    → m ≡ rows_at l (i + a) (pieces_from v v.a (chain v ps)) → m ≡ rows_at l₀ (i + a) (pieces_on ms l₀ n i)
unfolding split_from
cut_step ms l₀ l n i e a {v} {ps} p q f g h k r =
    let us = pieces_from v v.a (chain v ps) in
    let vs = pieces_on ms l₀ n (i + 1) in
    let one : pieces_on ms l₀ n i ≡ us ++ vs = rw (rows_step segments l₀ n i p, ← g, h, add-one i) in
    r
    ∙ ap (λ (t : List ℤ). rows_at t (i + a) us) f
    ∙ rows_before l₀ (i + a) (i + 1 + e) us vs (omega (arith, length_cut v ps, k))
    ∙ ap (rows_at l₀ (i + a)) (sym one)

-- ---- the number of pieces: one for each segment and one for each mark

module _ (n count : ℕ) (zs l : List ℤ) (h : in_order n (rows_from marks zs 0 count) ≡ true) where
  abbrev all : ℕ → List Segment
  all i = pieces_on (rows_from marks zs 0 count) l n i

  number_step : (i e : ℕ) → i < n → e ≤ count → Edge zs count (i + 1) e → i + start_of i zs e + length (all i) ≡ i + 1 + e + length (all (i + 1))
  unfolding split_from
  number_step i e p q d =
      let v = row_at segments l i in
      let a = start_of i zs e in
      let us = pieces_from v v.a (chain v (points_of i (rows_from marks zs 0 count))) in
      let one : all i ≡ us ++ all (i + 1) = rw (rows_step segments l n i p, add-one i) in
      let k = length_cut v (points_of i (rows_from marks zs 0 count)) in
      let r = ap length (run_points n zs count h i e q d) ∙ length-points zs a (e - a) in
      omega (arith, ap length one, length-append us (all (i + 1)), k, r, start-le i zs e)

  number-down : (i e : ℕ) → i ≤ n → e ≤ count → Edge zs count i e → i + e + length (all i) ≡ n + count → length (all 0) ≡ n + count
  number-down zero e p q d k = omega (arith, edge_none n zs count h e q d)
  number-down (suc i) e p q d k =
      let s : suc i ≡ i + 1 = omega arith in
      let d' = subst (λ (j : ℕ). Edge zs count j e) s d in
      let le = start-le i zs e in
      number-down i (start_of i zs e) (omega arith) (omega arith) (edge-next n zs count h i e q d')
      (number_step i e (omega arith) q d' ∙ subst (λ (j : ℕ). j + e + length (all j) ≡ n + count) s k)

  pub number-split : length (split (rows_from marks zs 0 count) (rows_from segments l 0 n)) ≡ n + count
  unfolding split_from
  number-split =
      ap (λ (k : ℕ). length (split (rows_from marks zs 0 count) (rows_from segments l 0 k))) (sym (sub-zero n))
      ∙ number-down n count (omega arith) (omega arith) (edge-all n zs count h)
      (ap (λ (t : List Segment). n + count + length (split_from n (rows_from marks zs 0 count) t)) (rows-done segments l n n (omega arith)) ∙ omega arith)
