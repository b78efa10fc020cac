-- A list cleared behind its rows holds them and then zeros.
use mathlib.Core.Path.{◌≡◌, sym, ap, ap₂, ◌∙◌}
use mathlib.Core.List.{List, [], ◌++◌, append-nil}
use Prim.Native.Nat.{ℕ, ◌+◌, ◌-◌, ◌*◌, ◌≤◌}
use native.Mathlib.Omega.{arith}
use lib.IntN.{ℤ, pos}
use lib.ListN.{length, take, drop, replicate, length-replicate, replicate-append-replicate}
use lib.Seq.{take_at, drop_at, drop-length}
use borrow.Rule.Slice.PartMut.{mid_of, post_of, put_mid, Post-is, mid_len}
use Rattle.whole.specs.Kind.{flat, rows_from, front}
use Rattle.whole.specs.KindLaws.{length-flat}
use Rattle.whole.proofs.KindLaws.{length-rows, front-rows}
use Rattle.geom.specs.declared.Segment.{Segment}
use Rattle.geom.specs.Rows.{segments}

zeros-after : (k n : ℕ) → k ≤ n → drop k (replicate n (pos 0)) ≡ replicate (n - k) (pos 0)
zeros-after k n h =
    let w : n ≡ k + (n - k) = omega arith in
    let e : replicate n (pos 0) ≡ replicate k (pos 0) ++ replicate (n - k) (pos 0) = ap (λ m. replicate m (pos 0)) w ∙ sym (replicate-append-replicate k (n - k) (pos 0)) in
    ap (drop k) e ∙ drop_at (replicate k (pos 0)) (replicate (n - k) (pos 0)) k (length-replicate k (pos 0))

module _ (xs : List ℤ) (m : ℕ) (h : 6 * m ≤ length xs) where
  abbrev L : List Segment
  L = rows_from segments xs 0 m

  rows_taken : take (6 * m) xs ≡ flat segments L
  unfolding front
  rows_taken =
      ap (take (6 * m)) (sym (front-rows segments xs m h))
      ∙ take_at (flat segments L) (drop (6 * length L) xs) (6 * m) (length-flat segments L ∙ ap (λ n. 6 * n) (length-rows segments xs 0 m))

  pub cleared-behind : {ys : List ℤ} → ys ≡ replicate (length (mid_of (6 * m) (length xs - 6 * m) xs)) (pos 0)
      → put_mid (6 * m) (length xs - 6 * m) xs ys ≡ front segments (replicate (length xs) (pos 0)) L
  unfolding front
  cleared-behind e =
      let z = ap (λ n. replicate n (pos 0)) (mid_len (6 * m) (length xs) xs (omega arith)) ∙ sym (zeros-after (6 * m) (length xs) h) in
      let none : post_of (6 * m) (length xs - 6 * m) xs ≡ [] = Post-is (6 * m) (length xs) xs h ∙ drop-length xs in
      ap₂ ◌++◌ rows_taken (ap₂ ◌++◌ (e ∙ z) none ∙ append-nil _ ∙ ap (λ n. drop (6 * n) (replicate (length xs) (pos 0))) (sym (length-rows segments xs 0 m)))
