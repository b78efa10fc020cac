-- A list by its places: what holds of all its members or pairs holds at each place, or each two, and so of the rows and bytes that a run leaves.
use Rattle.std.specs.Prelude.{◌≡◌, refl, List, [], ◌∷◌, map, ℕ, zero, suc, ◌+◌, ◌<◌, ℤ, length, get_or, take}
use Rattle.std.proofs.Common.{sym, ap, ◌∙◌, subst, arith, get_or-take}
use Rattle.whole.specs.Kind.{row_at, rows_from}
use Rattle.whole.proofs.KindLaws.{rows_at, length-rows}
use Rattle.whole.specs.Sum.{Pairs, In}
use Rattle.geom.specs.declared.Segment.{Segment}
use Rattle.geom.specs.Rows.{segments}
use Rattle.scan.specs.Masks.{byte_of, bytes}
use Rattle.demands.specs.Places.{in_at}
use Rattle.demands.proofs.PairsLaws.{pairs_at}

module _ {A : Type 0} (d : A) where
  map_at : (f : A → ℕ) (L : List A) (k : ℕ) → k < length L → get_or (map f L) k 0 ≡ f (get_or L k d)
  map_at f [] k h = absurd (omega arith)
  map_at f (t ∷ L) zero h = refl
  map_at f (t ∷ L) (suc k) h = map_at f L k (omega arith)

-- ---- rows of a list of numbers
module _ (xs : List ℤ) (m : ℕ) where
  abbrev K : List Segment
  K = rows_from segments xs 0 m

  abbrev none : Segment
  none = segments.make []

  row_is : (k : ℕ) → k < m → get_or K k none ≡ row_at segments xs k
  row_is k h = let e : 0 + k ≡ k = omega arith in rows_at segments xs 0 m k none h ∙ ap (row_at segments xs) e

  in_rows : (k : ℕ) → k < m → k < length K
  in_rows k h = rw (length-rows segments xs 0 m) h

  pub row_in : (k : ℕ) → k < m → In (row_at segments xs k) K
  row_in k h = subst (λ e. In e K) (row_is k h) (in_at none K k (in_rows k h))

  pub row-pair : {R : Segment → Segment → Type 0} → Pairs R K → (i j : ℕ) → i < j → j < m → R (row_at segments xs i) (row_at segments xs j)
  row-pair {R} p i j h k =
      let r = pairs_at none p i j h (in_rows j k) in
      subst (λ e. R e (row_at segments xs j)) (row_is i (omega arith)) (subst (R (get_or K i none)) (row_is j k) r)

  pub row-byte : (fill rule : ℕ) (masks : List ℕ) → take m masks ≡ bytes fill rule K → (k : ℕ) → k < m → get_or masks k 0 ≡ byte_of fill rule K (row_at segments xs k)
  row-byte fill rule masks e k h =
      sym (get_or-take m masks k 0 h) ∙ ap (λ bs. get_or bs k 0) e ∙ map_at none (byte_of fill rule K) K k (in_rows k h) ∙ ap (byte_of fill rule K) (row_is k h)
