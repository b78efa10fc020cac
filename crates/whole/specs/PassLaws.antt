-- A pass made in place, as a loop's invariant `Going`: n rows are written, the rows from i on are as they were, and what the pass still gives for them,
-- written from n on, makes the whole list. From `going_start` or `going-first`, by `going_skip` or `going_put` for each row, to `done` or `done_put`.
-- No row is written past the row that was read, n ≤ i, so nothing is lost.
use Rattle.std.specs.Prelude.{◌≡◌, refl, ℕ, ◌+◌, ◌-◌, ◌*◌, ◌≤◌, ℤ}
use Rattle.std.proofs.Common.{arith}
use mathlib.Core.List.{List}
use Rattle.std.proofs.Math.ListN.{length}
use Rattle.std.proofs.Math.Seq.{sets}
use Rattle.whole.specs.Kind.{Kind, row_at, flat, rows_from}
use Rattle.whole.specs.Pass.{Pass, pass}

module _ {A S : Type 0} (R : Kind A) (P : Pass A S) where
  -- of the list s₀ of m rows, which is to become `all`
  pub record Going (s₀ : List ℤ) (m : ℕ) (all : List A) (s : List ℤ) (n i : ℕ) (st : S) : Type 0 where
    pub kept : length s ≡ length s₀
    pub ahead : (k : ℕ) → i ≤ k → row_at R s k ≡ row_at R s₀ k
    pub number : n + length (pass P st (rows_from R s₀ i (m - i))) ≡ length all
    pub list : sets s (R.width * n) (flat R (pass P st (rows_from R s₀ i (m - i)))) ≡ sets s₀ (R.width * 0) (flat R all)

  -- nothing is written yet
  pub going_start : (s : List ℤ) (m i : ℕ) (st : S) → Going s m (pass P st (rows_from R s i (m - i))) s 0 i st
  going_start s m i st = record { kept = refl; ahead = λ k l. refl; number = omega arith; list = refl }
