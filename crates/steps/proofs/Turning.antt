-- The rows that a loop turns, by what is still to come: rows i to n of the input, turned, belong at row i of the work list.
use mathlib.Core.Path.{◌≡◌, ◌∙◌}
use mathlib.Core.List.{List, map}
use Prim.Native.Nat.{ℕ, ◌+◌, ◌-◌, ◌*◌, ◌≤◌, ◌<◌}
use native.Mathlib.Omega.{arith}
use lib.IntN.{ℤ}
use lib.ListN.{length, length-map}
use lib.Seq.{sets}
use Rattle.whole.specs.Kind.{row_at, put_row, flat, rows_from, front}
use Rattle.whole.proofs.KindLaws.{rows_step, rows-done, sets_flat, sets_front, length-rows}
use Rattle.geom.specs.Rows.{segments}
use Rattle.segm.specs.Forward.{forward}

module _ (input : List ℤ) (n : ℕ) where
  -- the work list once rows i and later are turned into it
  abbrev pub to_come : ℕ → List ℤ → List ℤ
  to_come i work = sets work (6 * i) (flat segments (map forward (rows_from segments input i (n - i))))

  pub come_step : (i : ℕ) (work : List ℤ) → i < n → to_come i work ≡ to_come (i + 1) (put_row segments work i (forward (row_at segments input i)))
  come_step i work h =
      rw (rows_step segments input n i h) (sets_flat segments work i (forward (row_at segments input i)) (map forward (rows_from segments input (i + 1) (n - (i + 1)))))

  pub come_end : (i : ℕ) (work : List ℤ) → n ≤ i → to_come i work ≡ work
  unfolding flat
  come_end i work h = rw (rows-done segments input n i h)

  pub come_all : (work : List ℤ) → 6 * n ≤ length work → to_come 0 work ≡ front segments work (map forward (rows_from segments input 0 n))
  come_all work h =
      let vs = map forward (rows_from segments input 0 n) in
      let l : length vs ≡ n = length-map (rows_from segments input 0 n) forward ∙ length-rows segments input 0 n in
      let e : n - 0 ≡ n = omega arith in
      rw e (sets_front segments work vs (omega (arith, l)))
