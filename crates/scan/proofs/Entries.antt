-- Those of a list that pass a test, read one after the other, in place (`keeping`) and in parts; and the entries of a work list.
use mathlib.Core.Path.{◌≡◌, refl, sym, ap, ◌∙◌}
use mathlib.Core.Bool.{Bool, true, false}
use mathlib.Core.List.{List, [], ◌∷◌, ◌++◌, map}
use mathlib.Core.Logic.{⊎_elim}
use Prim.Native.Nat.{ℕ, zero, suc, ◌+◌, ◌-◌, ◌≤◌, ◌<◌}
use native.Mathlib.Nat.{eq-or-lt_of_le}
use native.Mathlib.Numerals.{add-one}
use native.Mathlib.Omega.{arith}
use lib.IntN.{ℤ}
use lib.ListN.{length}
use Rattle.whole.specs.Kind.{Kind, row_at, rows_from}
use Rattle.whole.specs.Pass.{Pass, pass}
use Rattle.whole.specs.Sum.{All, none, also, keep}
use Rattle.whole.proofs.TestLaws.{of_true}
use Rattle.geom.specs.Rows.{segments}
use Rattle.scan.specs.declared.list.Entry.{Entry}
use Rattle.scan.specs.Scan.{segment_at, entry_of, entries_from, named, EntryOf}

-- ---- what passes

module _ {A : Type 0} (p : A → Bool) where
  abbrev pub keeping : Pass A ℕ
  keeping = record { emit = λ s t. keep p (t ∷ []); next = λ s t. s; last = λ s. [] }

  keep-first : (t : A) (L : List A) → keep p (t ∷ []) ++ keep p L ≡ keep p (t ∷ L)
  unfolding keep
  keep-first t L = go (p t) refl
    where
      go : (c : Bool) → p t ≡ c → keep p (t ∷ []) ++ keep p L ≡ keep p (t ∷ L)
      go true e = rw e
      go false e = rw e

  pub pass-keep : (s : ℕ) (L : List A) → pass keeping s L ≡ keep p L
  unfolding pass keep
  pass-keep s [] = refl
  pass-keep s (t ∷ L) = ap (λ (l : List A). keep p (t ∷ []) ++ l) (pass-keep s L) ∙ keep-first t L

  -- what passes a test that is passed by whatever passes this one
  pub keep-keep : (q : A → Bool) {L : List A} → All (λ t. p t ≡ true → q t ≡ true) L → keep p (keep q L) ≡ keep p L
  unfolding keep
  keep-keep q none = refl
  keep-keep q (also {t = t} {L = L} f h) = go (p t) (q t) refl refl (keep-keep q h)
    where
      go : (c d : Bool) → p t ≡ c → q t ≡ d → keep p (keep q L) ≡ keep p L → keep p (keep q (t ∷ L)) ≡ keep p (t ∷ L)
      go true true e g k = rw (g, e, k)
      go true false e g k = absurd (of_true (sym g ∙ f e))
      go false true e g k = rw (g, e, k)
      go false false e g k = rw (g, e, k)

  pub length-keep-map : {B : Type 0} (h : B → A) (L : List B) → length (keep p (map h L)) ≡ length (keep (λ t. p (h t)) L)
  unfolding keep
  length-keep-map h [] = refl
  length-keep-map {B} h (t ∷ L) = go (p (h t)) refl (length-keep-map h L)
    where
      go : (c : Bool) → p (h t) ≡ c → length (keep p (map h L)) ≡ length (keep (λ (s : B). p (h s)) L)
          → length (keep p (h t ∷ map h L)) ≡ length (keep (λ (s : B). p (h s)) (t ∷ L))
      go true e k = rw e (ap suc k)
      go false e k = rw e k

-- ---- entries

module _ (work : List ℤ) where
  pub entries-step : (n i : ℕ) → i < n → entries_from work i (n - i) ≡ entry_of i (segment_at work i) ∷ entries_from work (i + 1) (n - (i + 1))
  unfolding entries_from
  entries-step n i h = let e : n - i ≡ suc (n - suc i) = omega arith in rw (e, add-one i)

  pub entries-done : (n i : ℕ) → n ≤ i → entries_from work i (n - i) ≡ []
  unfolding entries_from
  entries-done n i h = let e : n - i ≡ 0 = omega arith in rw e

  pub entries-append : (i j k : ℕ) → entries_from work i (j + k) ≡ entries_from work i j ++ entries_from work (i + j) k
  unfolding entries_from
  entries-append i zero k = let z : i + 0 ≡ i = omega arith in let y : 0 + k ≡ k = omega arith in rw (z, y)
  entries-append i (suc j) k =
      let z : i + suc j ≡ suc i + j = omega arith in
      let y : suc j + k ≡ suc (j + k) = omega arith in
      rw (z, y) (ap (λ (l : List Entry). entry_of i (segment_at work i) ∷ l) (entries-append (suc i) j k))

  pub all-entries : {P : Entry → Type 0} (i k : ℕ) → ((m : ℕ) → i ≤ m → m < i + k → P (entry_of m (segment_at work m))) → All P (entries_from work i k)
  unfolding entries_from
  all-entries i zero f = none
  all-entries i (suc k) f = also (f i (omega arith) (omega arith)) (all-entries (suc i) k (λ m h q. f m (omega arith) (omega arith)))

  pub all_entry : (n : ℕ) → All (EntryOf work n) (entries_from work 0 n)
  all_entry n = all-entries 0 n (λ m h q. record { number = m; is = refl; small = omega arith })

  -- the work list by its entries
  pub by_entries : (i k : ℕ) → rows_from segments work i k ≡ map (named work) (entries_from work i k)
  unfolding rows_from entries_from
  by_entries i zero = refl
  by_entries i (suc k) = ap (λ l. segment_at work i ∷ l) (by_entries (suc i) k)

-- ---- what holds of all rows holds of each

pub all_row : {A : Type 0} {P : A → Type 0} (R : Kind A) (xs : List ℤ) (i k : ℕ) → All P (rows_from R xs i k) → (m : ℕ) → i ≤ m → m < i + k → P (row_at R xs m)
unfolding rows_from
all_row R xs i zero a m h q = let z : ⊥ = omega arith in absurd z
all_row R xs i (suc k) (also p a) m h q = ⊎_elim (λ e. rw (← e) p) (λ l. all_row R xs (suc i) k a m l (omega arith)) (eq-or-lt_of_le h)
