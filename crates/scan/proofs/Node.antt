-- At a node the scan list holds what is live of the whole list: so the sums over it are the definition's, and its length is the definition's number.
use mathlib.Core.Path.{◌≡◌, refl, sym, ap, ◌∙◌}
use mathlib.Core.List.{List}
use Prim.Native.Nat.{ℕ}
use native.Mathlib.Omega.{arith}
use lib.IntN.{ℤ, ◌*ℤ◌}
use lib.ListN.{length}
use Rattle.whole.specs.Kind.{rows_from}
use Rattle.whole.specs.Sum.{ind, Over, keep}
use Rattle.whole.proofs.SumLaws.{all_of, sum_on, sum-map, over-same, over-keep}
use Rattle.geom.specs.declared.Point.{Point}
use Rattle.geom.specs.declared.Segment.{Segment}
use Rattle.geom.specs.Plane.{Side, subject, clip, count}
use Rattle.geom.specs.Rows.{segments}
use Rattle.edges.specs.Below.{live, below}
use Rattle.scan.specs.declared.list.Entry.{Entry}
use Rattle.scan.specs.Masks.{bottom, top, mask_of, byte_of}
use Rattle.scan.specs.Live.{live_below}
use Rattle.scan.specs.Scan.{segment_at, entry_of, entries_from, named, live_at, amount, sum_of, sums_of, side_by, mask_by, byte_by}
use Rattle.scan.proofs.Entries.{length-keep-map, all-entries, by_entries}

module _ (work : List ℤ) (n : ℕ) where
  abbrev L : List Segment
  L = rows_from segments work 0 n

  abbrev E : List Entry
  E = entries_from work 0 n

  -- ---- what is live

  pub live-number : (p : Point) → length (keep (live p) L) ≡ length (keep (live_at work p) E)
  live-number p = ap (λ l. length (keep (live p) l)) (by_entries work 0 n) ∙ length-keep-map (live p) (named work) E

  -- ---- the sums

  counted : (k : Side) (m : ℕ) → amount k (entry_of m (segment_at work m)) ≡ count k (segment_at work m)
  counted subject m = refl
  counted clip m = refl

  sum_is : (k : Side) (e : Segment) → sum_of k work e (keep (live_at work e.a) E) ≡ bottom (count k) L e
  unfolding bottom Over
  sum_is k e =
      over-keep (amount k) (live_at work e.a) (λ t. below (named work t) e) E
      ∙ sym (over-same (amount k) (all_of E (λ t. live_below (named work t) e)))
      ∙ sum_on (all-entries work 0 n (λ m h q. ap (λ (z : ℤ). z *ℤ ind (below (segment_at work m) e)) (counted k m)))
      ∙ sym (sum-map (λ t. count k t *ℤ ind (below t e)) (named work) E)
      ∙ ap (Over (count k) (λ t. below t e)) (sym (by_entries work 0 n))

  mask_is : (fill : ℕ) (e : Segment) → mask_by fill (sums_of work e (keep (live_at work e.a) E)) e ≡ mask_of fill L e
  unfolding mask_by side_by mask_of top
  mask_is fill e = rw (sum_is subject e, sum_is clip e) (omega arith)

  pub byte_is : (fill rule : ℕ) (e : Segment) → byte_by fill rule (sums_of work e (keep (live_at work e.a) E)) e ≡ byte_of fill rule L e
  unfolding byte_by byte_of
  byte_is fill rule e = rw (mask_is fill e)
