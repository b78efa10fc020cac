-- Over a finite family with a strict total order, the rises of any g from the sum of what is lesser to that sum with the
-- own count add up to the rise over all. A sorted list telescopes from its head: the head has nothing below it, and to
-- all others it is one more count below. Sorting keeps every sum, and so both the family's sum and each sum of lessers.
use Rattle.std.specs.Prelude.{◌≡◌, Bool, ℤ, pos, ◌-ℤ◌, ◌*ℤ◌}
use Rattle.std.proofs.Math.Path.{refl, sym, ap, ap₂, fun_ext}
use Rattle.std.proofs.Common.{◌∙◌, inl, inr}
use mathlib.Core.List.{List, [], ◌∷◌}
use Rattle.std.proofs.Math.Bool.{true, false}
use Rattle.std.proofs.Math.IntN.{◌+ℤ◌}
use Rattle.whole.specs.Ring.{reads}
use Rattle.whole.proofs.RingLaws.{ring}
use Rattle.whole.specs.Sum.{All, none, also, Pairs, no_pair, pair, Sum, ind, Over}
use Rattle.whole.proofs.SumLaws.{assoc, add-zero, times_none, all_map, all_both, sum_on, sum_same, sum-zero}
use Rattle.whole.proofs.TestLaws.{of_true}
use Rattle.laws.specs.Telescope.{Lower, Strict, Told, in_two, rise}

-- ---- sorting, by a test
module _ {A : Type 0} (lt : A → A → Bool) where
  place : Bool → A → A → List A → List A → List A
  place true h y S I = h ∷ y ∷ S
  place false h y S I = y ∷ I

  insert : A → List A → List A
  insert h [] = h ∷ []
  insert h (y ∷ S) = place (lt h y) h y S (insert h S)

  sort : List A → List A
  sort [] = []
  sort (x ∷ L) = insert x (sort L)

  past : (a b c : ℤ) → a +ℤ (b +ℤ c) ≡ b +ℤ (a +ℤ c)
  past a b c = ring (a ∷ b ∷ c ∷ []) (search reads depth 20 fits 5000) tt

  sum-place : (f : A → ℤ) (t : Bool) (h y : A) (S I : List A) → Sum f I ≡ f h +ℤ Sum f S → Sum f (place t h y S I) ≡ f h +ℤ (f y +ℤ Sum f S)
  unfolding Sum place
  sum-place f true h y S I e = refl
  sum-place f false h y S I e = ap (λ s. f y +ℤ s) e ∙ past (f y) (f h) (Sum f S)

  sum-insert : (f : A → ℤ) (h : A) (S : List A) → Sum f (insert h S) ≡ f h +ℤ Sum f S
  unfolding Sum insert
  sum-insert f h [] = refl
  sum-insert f h (y ∷ S) = sum-place f (lt h y) h y S (insert h S) (sum-insert f h S)

  sum-sort : (f : A → ℤ) (L : List A) → Sum f (sort L) ≡ Sum f L
  unfolding Sum sort
  sum-sort f [] = refl
  sum-sort f (x ∷ L) = sum-insert f x (sort L) ∙ ap (λ s. f x +ℤ s) (sum-sort f L)

  all-place : (P : A → Type 0) (t : Bool) (h y : A) (S I : List A) → P h → P y → All P S → All P I → All P (place t h y S I)
  unfolding place
  all-place P true h y S I p q s i = also p (also q s)
  all-place P false h y S I p q s i = also q i

  all_insert : (P : A → Type 0) (h : A) (S : List A) → P h → All P S → All P (insert h S)
  unfolding insert
  all_insert P h [] p s = also p none
  all_insert P h (y ∷ S) p (also q s) = all-place P (lt h y) h y S (insert h S) p q s (all_insert P h S p s)

  all-sort : (P : A → Type 0) (L : List A) → All P L → All P (sort L)
  unfolding sort
  all-sort P [] n = none
  all-sort P (x ∷ L) (also p h) = all_insert P x (sort L) p (all-sort P L h)

module _ {A : Type 0} (lt : A → A → Bool) (Q : A → Type 0) (o : Strict lt Q) where
  asym : (x y : A) → Q x → Q y → lt x y ≡ true → lt y x ≡ false
  asym x y p q e = go (lt y x) refl
    where
      go : (t : Bool) → lt y x ≡ t → t ≡ false
      go true k = sym (o.transitive x y x p q p e k) ∙ o.irreflexive x p
      go false k = refl

  Up : List A → Type 0
  Up S = Pairs (λ x y. lt x y ≡ true) S

  up_place : (h y : A) (S I : List A) (t : Bool) → lt h y ≡ t → Told lt h y → Q h → Q y → All Q S → All (λ z. lt y z ≡ true) S → Up S → (lt y h ≡ true → All (λ z. lt y z ≡ true) I) → Up I → Up (place lt t h y S I)
  unfolding place Up
  up_place h y S I true e c qh qy qs a s b i = pair (also e (all_map (λ z m. o.transitive h y z qh qy m.0 e m.1) (all_both qs a))) (pair a s)
  up_place h y S I false e (inl k) qh qy qs a s b i = absurd (of_true (sym e ∙ k))
  up_place h y S I false e (inr k) qh qy qs a s b i = pair (b k) i

  up_insert : (h : A) (S : List A) → Q h → All Q S → All (Told lt h) S → Up S → Up (insert lt h S)
  unfolding insert Up
  up_insert h [] q n c s = pair none no_pair
  up_insert h (y ∷ S) q (also qy qs) (also c cs) (pair a s) = up_place h y S (insert lt h S) (lt h y) refl c q qy qs a s (λ k. all_insert lt (λ z. lt y z ≡ true) h S k a) (up_insert h S q qs cs s)

  up_sort : (L : List A) → All Q L → Pairs (Told lt) L → Up (sort lt L)
  unfolding sort Up
  up_sort [] n p = no_pair
  up_sort (x ∷ L) (also q qs) (pair c cs) = up_insert x (sort lt L) q (all-sort lt Q L qs) (all-sort lt (Told lt x) L c) (up_sort L qs cs)

add_none : (a b : ℤ) → a *ℤ pos 0 +ℤ b ≡ b
add_none a b = ring (a ∷ b ∷ []) (search reads depth 20 fits 5000) tt

add-one : (a b : ℤ) → a *ℤ pos 1 +ℤ b ≡ a +ℤ b
add-one a b = ring (a ∷ b ∷ []) (search reads depth 20 fits 5000) tt

none_at_all : (a : ℤ) → pos 0 ≡ a -ℤ a
none_at_all a = ring (a ∷ []) (search reads depth 20 fits 5000) tt

module _ {A : Type 0} (lt : A → A → Bool) (Q : A → Type 0) (o : Strict lt Q) where
  -- nothing is below the head
  low-head : (c : A → ℤ) (x : A) (S : List A) → Q x → All Q S → All (λ y. lt x y ≡ true) S → Lower lt c (x ∷ S) x ≡ pos 0
  unfolding Lower Over Sum
  low-head c x S q qs h = ap (λ t. c x *ℤ ind t +ℤ Sum (λ s. c s *ℤ ind (lt s x)) S) (o.irreflexive x q) ∙ add_none (c x) (Sum (λ s. c s *ℤ ind (lt s x)) S)
      ∙ sum-zero (all_map (λ s m. ap (λ t. c s *ℤ ind t) (asym lt Q o x s q m.0 m.1) ∙ sym (times_none (c s))) (all_both qs h))

  -- and the head is below all others
  low_tail : (c : A → ℤ) (x : A) (S : List A) (r : A) → lt x r ≡ true → Lower lt c (x ∷ S) r ≡ c x +ℤ Lower lt c S r
  unfolding Lower Over Sum
  low_tail c x S r e = ap (λ t. c x *ℤ ind t +ℤ Sum (λ s. c s *ℤ ind (lt s r)) S) e ∙ add-one (c x) (Sum (λ s. c s *ℤ ind (lt s r)) S)

  low-sort : (c : A → ℤ) (L : List A) (r : A) → Lower lt c (sort lt L) r ≡ Lower lt c L r
  unfolding Lower Over
  low-sort c L r = sum-sort lt (λ s. c s *ℤ ind (lt s r)) L

  module _ {I : Type 0} (g : (I → ℤ) → ℤ) (c : I → A → ℤ) where
    each : (I → ℤ) → List A → A → ℤ
    each B L r = rise g (λ i. B i +ℤ Lower lt (c i) L r) (λ i. c i r)

    shift : (B : I → ℤ) (x : A) (S : List A) (r : A) → lt x r ≡ true → each B (x ∷ S) r ≡ each (λ i. B i +ℤ c i x) S r
    unfolding each
    shift B x S r e = ap (λ P. rise g P (λ i. c i r)) (fun_ext (λ i. ap (λ s. B i +ℤ s) (low_tail (c i) x S r e) ∙ assoc (B i) (c i x) (Lower lt (c i) S r)))

    first : (B : I → ℤ) (x : A) (S : List A) → Q x → All Q S → All (λ y. lt x y ≡ true) S → each B (x ∷ S) x ≡ rise g B (λ i. c i x)
    unfolding each
    first B x S q qs h = ap (λ P. rise g P (λ i. c i x)) (fun_ext (λ i. ap (λ s. B i +ℤ s) (low-head (c i) x S q qs h) ∙ add-zero (B i)))

    close : (B u v : I → ℤ) → rise g B u +ℤ rise g (λ i. B i +ℤ u i) v ≡ rise g B (λ i. u i +ℤ v i)
    unfolding rise
    close B u v = in_two (g (λ i. B i +ℤ u i)) (g B) (g (λ i. B i +ℤ u i +ℤ v i)) ∙ ap (λ P. g P -ℤ g B) (fun_ext (λ i. sym (assoc (B i) (u i) (v i))))

    no_rise : (B : I → ℤ) → pos 0 ≡ rise g B (λ i. pos 0)
    unfolding rise
    no_rise B = none_at_all (g B) ∙ ap (λ P. g P -ℤ g B) (fun_ext (λ i. sym (add-zero (B i))))

    sorted : (S : List A) (B : I → ℤ) → All Q S → Up lt Q o S → Sum (each B S) S ≡ rise g B (λ i. Sum (c i) S)
    unfolding Sum Up
    sorted [] B n s = no_rise B
    sorted (x ∷ S) B (also q qs) (pair h s) =
        ap₂ ◌+ℤ◌ (first B x S q qs h) (sum_on (all_map (λ r e. shift B x S r e) h) ∙ sorted S (λ i. B i +ℤ c i x) qs s)
        ∙ close B (λ i. c i x) (λ i. Sum (c i) S)

    pub telescope : (B : I → ℤ) (L : List A) → All Q L → Pairs (Told lt) L → Sum (λ r. rise g (λ i. B i +ℤ Lower lt (c i) L r) (λ i. c i r)) L ≡ rise g B (λ i. Sum (c i) L)
    unfolding each
    telescope B L q t =
        sum_same L (λ r. ap (λ P. rise g P (λ i. c i r)) (fun_ext (λ i. ap (λ s. B i +ℤ s) (sym (low-sort (c i) L r)))))
        ∙ sym (sum-sort lt (each B (sort lt L)) L)
        ∙ sorted (sort lt L) B (all-sort lt Q L q) (up_sort lt Q o L q t)
        ∙ ap (λ P. rise g B P) (fun_ext (λ i. sum-sort lt (c i) L))
