-- Whether some row has a fault, asked of the rows' numbers; and what a list without the fault says of each row.
use mathlib.Core.Path.{◌≡◌, refl, ap}
use Rattle.std.proofs.Common.{add-one}
use Rattle.std.specs.List.{list_any, range_with_len}
use mathlib.Core.Bool.{Bool, false, ◌||◌}
use mathlib.Core.List.{List}
use mathlib.Core.Logic.{⊎_elim}
use Prim.Native.Nat.{ℕ, zero, suc, ◌+◌, ◌<◌, ◌≤◌}
use native.Mathlib.Omega.{arith}
use lib.IntN.{ℤ}
use Rattle.whole.specs.Kind.{row_at, rows_from}
use Rattle.whole.proofs.TestLaws.{neither, not_false}
use Rattle.whole.specs.Total.{same_or}
use Rattle.geom.specs.declared.Segment.{Segment}
use Rattle.geom.specs.Plane.{GridSegment, grid_segment}
use Rattle.geom.specs.Rows.{segments}
use Rattle.geom.specs.Tests.{when_true}
use Rattle.geom.proofs.TestsLaws.{grid_segment?}
use Rattle.faults.specs.Faults.{some, is_off}

-- the test of the rows' numbers is the test of the rows
pub any_row : (has : Segment → Bool) (xs : List ℤ) (i n : ℕ) → list_any (λ k. has (row_at segments xs k)) (range_with_len i n) ≡ some has (rows_from segments xs i n)
unfolding some rows_from
any_row has xs i zero = refl
any_row has xs i (suc n) = rw add-one (ap (λ t. has (row_at segments xs i) || t) (any_row has xs (suc i) n))

-- ---- none has it: no row has it

pub clean_at : (fault : Segment → Bool) (xs : List ℤ) (k i : ℕ) → some fault (rows_from segments xs i k) ≡ false → (j : ℕ) → i ≤ j → j < i + k → fault (row_at segments xs j) ≡ false
unfolding some rows_from
clean_at fault xs zero i h j p q = absurd (omega arith)
clean_at fault xs (suc k) i h j p q =
    let n = neither (fault (row_at segments xs i)) (some fault (rows_from segments xs (suc i) k)) h in
    ⊎_elim (λ (e : j ≡ i). rw e n.0) (λ e. clean_at fault xs k (suc i) n.1 j (omega arith) (omega arith)) (same_or j i)

pub each_on_grid : (xs : List ℤ) (n : ℕ) → some is_off (rows_from segments xs 0 n) ≡ false → (i : ℕ) → i < n → GridSegment (row_at segments xs i)
each_on_grid xs n e i h =
    let v = row_at segments xs i in
    when_true (grid_segment? v) (not_false (grid_segment v) (clean_at is_off xs n 0 e i (omega arith) (omega arith)))
