-- One law for each answer, and the pieces at the front of the list.
use mathlib.Core.Path.{◌≡◌}
use mathlib.Core.Bool.{true, false}
use mathlib.Core.List.{List}
use Prim.Native.Nat.{ℕ, ◌+◌, ◌*◌, ◌≤◌, ◌<◌}
use native.Mathlib.Omega.{arith}
use lib.IntN.{ℤ}
use lib.ListN.{length}
use borrow.Author.Tests.{lt-ltb, le-ltb}
use Rattle.whole.specs.Kind.{rows_from, front}
use Rattle.whole.proofs.KindLaws.{sets_front}
use Rattle.geom.specs.Limits.{work_room, mark_room}
use Rattle.geom.specs.Rows.{segments}
use Rattle.faults.specs.Faults.{some, has_least}
use Rattle.split.specs.Marks.{marks}
use Rattle.split.specs.Chain.{split}
use Rattle.std.specs.Prelude.{Ok, Err}
use Rattle.apply.specs.declared.ApplyError.TheVariants.{Short, BadCount, Full}
use Rattle.apply.specs.Answer.{in_order, outcome, apply_answer}
use Rattle.chains.proofs.Pieces.{rows_at}
use Rattle.apply.proofs.Back.{number-split}

module _ (xs : List ℤ) (n : ℕ) (zs : List ℤ) (count : ℕ) where
  pub too_long : work_room (length xs) < n → apply_answer xs n zs count ≡ Err Short
  unfolding apply_answer
  too_long h = rw (lt-ltb (work_room (length xs)) n h)

  module _ (a : n ≤ work_room (length xs)) where
    pub too_many : mark_room (length zs) < count → apply_answer xs n zs count ≡ Err Short
    unfolding apply_answer
    too_many h = rw (le-ltb (work_room (length xs)) n a, lt-ltb (mark_room (length zs)) count h)

    module _ (b : count ≤ mark_room (length zs)) where
      pub unordered : in_order n (rows_from marks zs 0 count) ≡ false → apply_answer xs n zs count ≡ Err Short
      unfolding apply_answer outcome
      unordered h = rw (le-ltb (work_room (length xs)) n a, le-ltb (mark_room (length zs)) count b, h)

      module _ (o : in_order n (rows_from marks zs 0 count) ≡ true) where
        pub bad_count : some has_least (rows_from segments xs 0 n) ≡ true → apply_answer xs n zs count ≡ Err BadCount
        unfolding apply_answer outcome
        bad_count h = rw (le-ltb (work_room (length xs)) n a, le-ltb (mark_room (length zs)) count b, o, h)

        module _ (l : some has_least (rows_from segments xs 0 n) ≡ false) where
          pub no_room : work_room (length xs) < n + count → apply_answer xs n zs count ≡ Err Full
          unfolding apply_answer outcome
          no_room h = rw (le-ltb (work_room (length xs)) n a, le-ltb (mark_room (length zs)) count b, o, l, lt-ltb (work_room (length xs)) (n + count) h)

          pub all-cut : n + count ≤ work_room (length xs) → apply_answer xs n zs count ≡ Ok (n + count)
          unfolding apply_answer outcome
          all-cut h = rw (le-ltb (work_room (length xs)) n a, le-ltb (mark_room (length zs)) count b, o, l, le-ltb (work_room (length xs)) (n + count) h)

  pub at_front : 6 * (n + count) ≤ length xs → in_order n (rows_from marks zs 0 count) ≡ true
      → rows_at xs 0 (split (rows_from marks zs 0 count) (rows_from segments xs 0 n)) ≡ front segments xs (split (rows_from marks zs 0 count) (rows_from segments xs 0 n))
  at_front h o = sets_front segments xs (split (rows_from marks zs 0 count) (rows_from segments xs 0 n)) (omega (arith, number-split n count zs xs o))
