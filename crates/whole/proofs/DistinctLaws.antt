-- Laws of a list without its repeats. Its first row is the list's first: where a loop that drops repeats begins (`distinct-first`; `going-first` of module
-- PassLaws). Of a list in order it holds nothing twice (`distinct-strict`, `distinct_apart`), and it holds only what the list held (`distinct-all`).
use Rattle.std.specs.Prelude.{◌≡◌, Bool, cond, ◌≢◌, ℕ, ◌-◌, ◌<◌, ℤ}
use Rattle.std.proofs.Common.{sym, ap, ◌∙◌, subst, arith}
use Rattle.std.proofs.Math.Bool.{true, false}
use mathlib.Core.List.{List, [], ◌∷◌, ◌++◌}
use Rattle.whole.specs.Total.{Total}
use Rattle.whole.specs.Decide.{Decides, yes, no}
use Rattle.whole.specs.Sorting.{Low, Sorted}
use Rattle.whole.specs.Sum.{All, none, also, Pairs, no_pair, pair}
use Rattle.whole.proofs.SumLaws.{all_map}
use Rattle.whole.specs.Kind.{Kind, row_at, rows_from}
use Rattle.whole.specs.Pass.{pass}
use Rattle.whole.specs.Distinct.{differing, distinct}
use Rattle.whole.proofs.KindLaws.{rows_step}

pub distinct-first : {A : Type 0} (R : Kind A) (same : A → A → Bool) (s : List ℤ) (m : ℕ) → 0 < m
    → distinct same (rows_from R s 0 m) ≡ row_at R s 0 ∷ pass (differing same) (row_at R s 0) (rows_from R s 1 (m - 1))
unfolding distinct
distinct-first R same s m h =
    let e : m ≡ m - 0 = omega arith in
    ap (λ k. distinct same (rows_from R s 0 k)) e ∙ ap (distinct same) (rows_step R s m 0 h)

module _ {A : Type 0} {le : A → A → Bool} (o : Total le) (same : A → A → Bool) (same? : (x y : A) → Decides (x ≡ y) (same x y)) where
  -- after p
  abbrev After : A → A → Type 0
  After p x = (le p x ≡ true) × (p ≢ x)

  abbrev Strict : A → List A → Type 0
  Strict p xs = All (After p) xs × Pairs After xs

  after_same : {p q x : A} → p ≡ q → After q x → After p x
  after_same {x = x} e m = (subst (λ r. le r x ≡ true) (sym e) m.0, λ z. m.1 (sym e ∙ z))

  after-trans : {p q x : A} → After p q → After q x → After p x
  after-trans {p} {q} {x} m k = (o.trans p q x m.0 k.0, λ z. m.1 (o.anti p q m.0 (subst (λ r. le q r ≡ true) (sym z) k.0)))

  pass-strict : (p : A) (qs : List A) → Low le p qs → Sorted le qs → Strict p (pass (differing same) p qs)
  unfolding pass
  pass-strict p [] l s = (none, no_pair)
  pass-strict p (q ∷ qs) l s = go (same? p q) (pass-strict q qs s.0 s.1)
    where
      go : {b : Bool} → Decides (p ≡ q) b → Strict q (pass (differing same) q qs) → Strict p (cond b [] (q ∷ []) ++ pass (differing same) q qs)
      go (yes e) h = (all_map (λ x m. after_same e m) h.0, h.1)
      go (no n) h = (also (l.0, n) (all_map (λ x m. after-trans (l.0, n) m) h.0), pair h.0 h.1)

  -- each stands before all later ones, and is none of them
  pub distinct-strict : (xs : List A) → Sorted le xs → Pairs (λ p x. (le p x ≡ true) × (p ≢ x)) (distinct same xs)
  unfolding distinct
  distinct-strict [] s = no_pair
  distinct-strict (q ∷ qs) s = let h = pass-strict q qs s.0 s.1 in pair h.0 h.1

  pub distinct_apart : (xs : List A) → Sorted le xs → Pairs ◌≢◌ (distinct same xs)
  distinct_apart xs s = only (distinct-strict xs s)
    where
      only : {ys : List A} → Pairs After ys → Pairs ◌≢◌ ys
      only no_pair = no_pair
      only (pair h k) = pair (all_map (λ x m. m.1) h) (only k)

module _ {A : Type 0} {P : A → Type 0} (same : A → A → Bool) where
  pass_all : (p : A) {qs : List A} → All P qs → All P (pass (differing same) p qs)
  unfolding pass
  pass_all p none = none
  pass_all p (also {t = q} {L = qs} h k) = go (same p q) (pass_all q k)
    where
      go : (b : Bool) → All P (pass (differing same) q qs) → All P (cond b [] (q ∷ []) ++ pass (differing same) q qs)
      go true r = r
      go false r = also h r

  pub distinct-all : {xs : List A} → All P xs → All P (distinct same xs)
  unfolding distinct
  distinct-all none = none
  distinct-all (also {t = q} h k) = also h (pass_all q k)
