-- The loop of `net_at`: the net count so far and what the rows left add to it come to the whole, and it fits 64 bits. One law for each event.
use mathlib.Core.Path.{◌≡◌, sym, ap, ◌∙◌}
use mathlib.Core.List.{List}
use Prim.Native.Nat.{ℕ, ◌+◌, ◌*◌, ◌-◌, ◌<◌, ◌≤◌}
use native.Mathlib.Nat.{sub-zero}
use native.Mathlib.Omega.{arith}
use lib.IntN.{ℤ, nat_abs}
use Rattle.whole.specs.Kind.{row_at, rows_from}
use Rattle.whole.proofs.KindLaws.{rows_step, rows-done}
use Rattle.geom.specs.declared.Point.{Point}
use Rattle.geom.specs.declared.Segment.{Segment}
use Rattle.geom.specs.Rows.{segments}
use Rattle.outlines.specs.declared.Net.{Net}
use Rattle.outlines.specs.Net.{counted_at, net_from, nothing, net_at}

-- one count of a row at most is in each sum
pub record Tally (p : Point) (xs : List ℤ) (n i : ℕ) (net : Net) : Type 0 where
  pub rest : net_from p net (rows_from segments xs i (n - i)) ≡ net_at p (rows_from segments xs 0 n)
  pub subject : nat_abs net.subject ≤ i * 2147483648
  pub clip : nat_abs net.clip ≤ i * 2147483648

-- a sum is at most one count further from 0
abbrev Nearby : Net → Net → Type 0
Nearby net m = (nat_abs m.subject ≤ nat_abs net.subject + 2147483648) × (nat_abs m.clip ≤ nat_abs net.clip + 2147483648)

pub tally_start : (p : Point) (xs : List ℤ) (n : ℕ) → Tally p xs n 0 nothing
tally_start p xs n = record { rest = rw (sub-zero n); subject = omega arith; clip = omega arith }

module _ {p : Point} {xs : List ℤ} {n i : ℕ} {net : Net} (k : Tally p xs n i net) where
  pub tally_next : i < n → {v : Segment} {r : Net} → v ≡ row_at segments xs i → (r ≡ counted_at p net v) × Nearby net r → Tally p xs n (i + 1) r
  unfolding net_from
  tally_next h {v} {r} e s =
      let b = s.1 in
      record {
        rest = rw (s.0, e) (sym (ap (net_from p net) (rows_step segments xs n i h)) ∙ k.rest);
        subject = omega (arith, k.subject, b.0);
        clip = omega (arith, k.clip, b.1);
      }

  pub tally_end : n ≤ i → net ≡ net_at p (rows_from segments xs 0 n)
  unfolding net_from
  tally_end h = sym (ap (net_from p net) (rows-done segments xs n i h)) ∙ k.rest
