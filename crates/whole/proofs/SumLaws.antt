-- Sums over a list of a ℤ-valued function, with what holds of every member, and sums over those members that pass a test.
--     Sum f L            the sum of f over L: `sum-append`, `sum-map`, `sum-add`, `sum-sub`, `sum-neg`, `sum-scale`, `sum-swap`, `sum-perm`, `sum_const`
--     Over w p L         the sum of w over those of L that pass p, equal to Sum w (keep p L) (`sum-keep`)
--     All P L, Pairs R L, In e L      P of every member; R of every member and each later one; membership
-- Compare two sums term by term: `sum_on` wants an equation for every member, `over-same` and `over-one` .. `over-three` want equal tests, or tests that
-- pass equally often, counted by `ind`. The order of a list never matters to a sum: `sum-perm`.
use Rattle.std.specs.Prelude.{◌≡◌, refl, List, [], ◌∷◌, ◌++◌, map, Bool, true, false, not, cond, ◌&&◌, ℕ, ◌+◌, ◌*◌, ◌≤◌, ℤ, pos, negsuc, neg_ℤ, nat_abs, ◌+ℤ◌, ◌-ℤ◌, ◌*ℤ◌, length, ◌≤ℤ◌}
use Rattle.std.proofs.Common.{sym, ◌∙◌, ap, ap₂, suc-mul, arith}
use Rattle.whole.specs.Order.{zz, up, dn, add_is}
use Rattle.whole.specs.Ring.{reads}
use Rattle.whole.proofs.RingLaws.{ring}
use Rattle.whole.specs.Fit.{abs-add}
use Rattle.whole.specs.Sorting.{sum, Perm, insert, sort}
use Rattle.whole.specs.Sum.{All, In, Over, Pairs, Sum, ind, keep, keep_if, none, also, no_pair, pair, here, there}

pub all_map : {A : Type 0} {P Q : A → Type 0} {L : List A} → ((t : A) → P t → Q t) → All P L → All Q L
all_map f none = none
all_map f (also {t = t} p h) = also (f t p) (all_map f h)

pub all_both : {A : Type 0} {P Q : A → Type 0} {L : List A} → All P L → All Q L → All (λ t. P t × Q t) L
all_both none none = none
all_both (also p h) (also q k) = also (p, q) (all_both h k)

pub all_of : {A : Type 0} {P : A → Type 0} (L : List A) → ((t : A) → P t) → All P L
all_of [] f = none
all_of (t ∷ L) f = also (f t) (all_of L f)

pub all_append : {A : Type 0} {P : A → Type 0} {K L : List A} → All P K → All P L → All P (K ++ L)
all_append none k = k
all_append (also p h) k = also p (all_append h k)

-- of every member, and of each by its membership
pub all_in : {A : Type 0} {P : A → Type 0} {e : A} {L : List A} → In e L → All P L → P e
all_in here (also p h) = p
all_in (there i) (also p h) = all_in i h

pub all_by : {A : Type 0} {P : A → Type 0} (L : List A) → ((t : A) → In t L → P t) → All P L
all_by [] f = none
all_by (t ∷ L) f = also (f t here) (all_by L (λ s i. f s (there i)))

-- of the images, and of a list once it is sorted
pub all-over : {A B : Type 0} {P : B → Type 0} (h : A → B) {L : List A} → All (λ t. P (h t)) L → All P (map h L)
all-over h none = none
all-over h (also p k) = also p (all-over h k)

all_insert : {A : Type 0} {P : A → Type 0} (le : A → A → Bool) (x : A) {L : List A} → P x → All P L → All P (insert le x L)
unfolding insert
all_insert le x p none = also p none
all_insert {P} le x p (also {t = t} {L = L} q h) = go (le x t) (all_insert le x p h)
  where
    go : (c : Bool) → All P (insert le x L) → All P (cond c (x ∷ t ∷ L) (t ∷ insert le x L))
    go true k = also p (also q h)
    go false k = also q k

pub all-sort : {A : Type 0} {P : A → Type 0} (le : A → A → Bool) {L : List A} → All P L → All P (sort le L)
unfolding sort
all-sort le none = none
all-sort le (also {t = t} p h) = all_insert le t p (all-sort le h)

pub pairs_map : {A : Type 0} {P : A → Type 0} {R S : A → A → Type 0} {L : List A}
    → ((s t : A) → P s → P t → R s t → S s t) → All P L → Pairs R L → Pairs S L
pairs_map f none no_pair = no_pair
pairs_map f (also {t = s} p q) (pair h k) = pair (all_map (λ t m. f s t p m.0 m.1) (all_both q h)) (pairs_map f q k)

pub sum_on : {A : Type 0} {f g : A → ℤ} {L : List A} → All (λ t. f t ≡ g t) L → Sum f L ≡ Sum g L
unfolding Sum
sum_on none = refl
sum_on (also p h) = ap₂ ◌+ℤ◌ p (sum_on h)

pub sum_same : {A : Type 0} {f g : A → ℤ} (L : List A) → ((t : A) → f t ≡ g t) → Sum f L ≡ Sum g L
sum_same L h = sum_on (all_of L h)

pub sum-zero : {A : Type 0} {f : A → ℤ} {L : List A} → All (λ t. f t ≡ pos 0) L → Sum f L ≡ pos 0
unfolding Sum
sum-zero none = refl
sum-zero (also p h) = ap₂ ◌+ℤ◌ p (sum-zero h)

-- ---- algebra

pub swap : (a b c d : ℤ) → (a +ℤ b) +ℤ (c +ℤ d) ≡ (a +ℤ c) +ℤ (b +ℤ d)
swap a b c d = ring (a ∷ b ∷ c ∷ d ∷ []) (search reads depth 20 fits 5000) tt

pub assoc : (a b c : ℤ) → a +ℤ (b +ℤ c) ≡ (a +ℤ b) +ℤ c
assoc a b c = ring (a ∷ b ∷ c ∷ []) (search reads depth 20 fits 5000) tt

pub add-zero : (a : ℤ) → a +ℤ pos 0 ≡ a
add-zero a = ring (a ∷ []) (search reads depth 20 fits 5000) tt

zero-add : (a : ℤ) → a ≡ pos 0 +ℤ a
zero-add a = ring (a ∷ []) (search reads depth 20 fits 5000) tt

times : (k a b : ℤ) → k *ℤ a +ℤ k *ℤ b ≡ k *ℤ (a +ℤ b)
times k a b = ring (k ∷ a ∷ b ∷ []) (search reads depth 20 fits 5000) tt

times-three : (k a b c : ℤ) → k *ℤ a +ℤ k *ℤ b +ℤ k *ℤ c ≡ k *ℤ (a +ℤ b +ℤ c)
times-three k a b c = ring (k ∷ a ∷ b ∷ c ∷ []) (search reads depth 20 fits 5000) tt

pub times_none : (k : ℤ) → pos 0 ≡ k *ℤ pos 0
times_none k = ring (k ∷ []) (search reads depth 20 fits 5000) tt

times_minus : (a : ℤ) → negsuc 0 *ℤ a ≡ neg_ℤ a
times_minus a = ring (a ∷ []) (search reads depth 20 fits 5000) tt

pub sum-add : {A : Type 0} (f g : A → ℤ) (L : List A) → Sum (λ t. f t +ℤ g t) L ≡ Sum f L +ℤ Sum g L
unfolding Sum
sum-add f g [] = refl
sum-add f g (t ∷ L) = ap (λ s. (f t +ℤ g t) +ℤ s) (sum-add f g L) ∙ swap (f t) (g t) (Sum f L) (Sum g L)

pub sum-scale : {A : Type 0} (k : ℤ) (f : A → ℤ) (L : List A) → Sum (λ t. k *ℤ f t) L ≡ k *ℤ Sum f L
unfolding Sum
sum-scale k f [] = times_none k
sum-scale k f (t ∷ L) = ap (λ s. k *ℤ f t +ℤ s) (sum-scale k f L) ∙ times k (f t) (Sum f L)

pub sum-neg : {A : Type 0} (f : A → ℤ) (L : List A) → Sum (λ t. neg_ℤ (f t)) L ≡ neg_ℤ (Sum f L)
sum-neg f L = sum_same L (λ t. sym (times_minus (f t))) ∙ sum-scale (negsuc 0) f L ∙ times_minus (Sum f L)

pub sum-sub : {A : Type 0} (f g : A → ℤ) (L : List A) → Sum (λ t. f t -ℤ g t) L ≡ Sum f L -ℤ Sum g L
sum-sub f g L = sum-add f (λ t. neg_ℤ (g t)) L ∙ ap (λ s. Sum f L +ℤ s) (sum-neg g L)

pub sum-append : {A : Type 0} (f : A → ℤ) (K L : List A) → Sum f (K ++ L) ≡ Sum f K +ℤ Sum f L
unfolding Sum
sum-append f [] L = zero-add (Sum f L)
sum-append f (t ∷ K) L = ap (λ s. f t +ℤ s) (sum-append f K L) ∙ assoc (f t) (Sum f K) (Sum f L)

pub sum-map : {A B : Type 0} (f : B → ℤ) (h : A → B) (L : List A) → Sum f (map h L) ≡ Sum (λ t. f (h t)) L
unfolding Sum
sum-map f h [] = refl
sum-map f h (t ∷ L) = ap (λ s. f (h t) +ℤ s) (sum-map f h L)

-- a double sum in the other order
pub sum-swap : {A B : Type 0} (f : A → B → ℤ) (K : List A) (L : List B)
    → Sum (λ s. Sum (λ t. f s t) L) K ≡ Sum (λ t. Sum (λ s. f s t) K) L
unfolding Sum
sum-swap f [] L = sym (sum-zero (all_of L (λ t. refl)))
sum-swap f (s ∷ K) L =
    ap (λ r. Sum (f s) L +ℤ r) (sum-swap f K L) ∙ sym (sum-add (f s) (λ t. Sum (λ s. f s t) K) L)

-- the halves of a sum are the sums of the halves, which are ℕ-valued: so lists that hold the same have the same sum
halves : {A : Type 0} (f : A → ℤ) (L : List A) → up (Sum f L) + sum (λ t. dn (f t)) L ≡ sum (λ t. up (f t)) L + dn (Sum f L)
unfolding Sum
halves f [] = omega arith
halves f (t ∷ L) = omega (arith, halves f L, add_is (f t) (Sum f L))

pub sum-perm : {A : Type 0} (f : A → ℤ) (K L : List A) → Perm K L → Sum f K ≡ Sum f L
sum-perm f K L p = omega (zz, halves f K, halves f L, p (λ t. up (f t)), p (λ t. dn (f t)))

-- ---- bounds

pub sum_nonneg : {A : Type 0} {f : A → ℤ} {L : List A} → All (λ t. pos 0 ≤ℤ f t) L → pos 0 ≤ℤ Sum f L
unfolding Sum
sum_nonneg none = omega zz
sum_nonneg {f} (also {t = t} {L = L} p h) = omega (zz, p, sum_nonneg h, add_is (f t) (Sum f L))

pub sum_bound : {A : Type 0} (f : A → ℤ) {m : ℕ} {L : List A} → All (λ t. nat_abs (f t) ≤ m) L → nat_abs (Sum f L) ≤ length L * m
unfolding Sum
sum_bound f none = omega arith
sum_bound f {m} (also {t = t} {L = L} p h) = omega (arith, p, sum_bound f h, abs-add (f t) (Sum f L), suc-mul (length L) m)

pub over-same : {A : Type 0} (w : A → ℤ) {p q : A → Bool} {L : List A} → All (λ t. p t ≡ q t) L → Over w p L ≡ Over w q L
unfolding Over
over-same w h = sum_on (all_map (λ t e. ap (λ c. w t *ℤ ind c) e) h)

pub over_none : {A : Type 0} (w : A → ℤ) {p : A → Bool} {L : List A} → All (λ t. p t ≡ false) L → Over w p L ≡ pos 0
unfolding Over
over_none w h = sum-zero (all_map (λ t e. ap (λ c. w t *ℤ ind c) e ∙ sym (times_none (w t))) h)

-- one, two and three tests that pass as often as two
pub over-one : {A : Type 0} (w : A → ℤ) (p q r : A → Bool) {L : List A} → All (λ t. ind (p t) ≡ ind (q t) +ℤ ind (r t)) L
    → Over w p L ≡ Over w q L +ℤ Over w r L
unfolding Over
over-one w p q r {L} h =
    sum_on (all_map (λ t e. ap (λ s. w t *ℤ s) e ∙ sym (times (w t) (ind (q t)) (ind (r t)))) h)
    ∙ sum-add (λ t. w t *ℤ ind (q t)) (λ t. w t *ℤ ind (r t)) L

pub over-two : {A : Type 0} (w : A → ℤ) (p q r u : A → Bool) {L : List A} → All (λ t. ind (p t) +ℤ ind (q t) ≡ ind (r t) +ℤ ind (u t)) L
    → Over w p L +ℤ Over w q L ≡ Over w r L +ℤ Over w u L
unfolding Over
over-two w p q r u {L} h =
    sym (sum-add (λ t. w t *ℤ ind (p t)) (λ t. w t *ℤ ind (q t)) L)
    ∙ sum_on
    (all_map (λ t e. times (w t) (ind (p t)) (ind (q t)) ∙ ap (λ s. w t *ℤ s) e ∙ sym (times (w t) (ind (r t)) (ind (u t)))) h)
    ∙ sum-add (λ t. w t *ℤ ind (r t)) (λ t. w t *ℤ ind (u t)) L

pub over-three : {A : Type 0} (w : A → ℤ) (p q v r u : A → Bool) {L : List A}
    → All (λ t. ind (p t) +ℤ ind (q t) +ℤ ind (v t) ≡ ind (r t) +ℤ ind (u t)) L
    → Over w p L +ℤ Over w q L +ℤ Over w v L ≡ Over w r L +ℤ Over w u L
unfolding Over
over-three w p q v r u {L} h =
    sym
    (sum-add (λ t. w t *ℤ ind (p t) +ℤ w t *ℤ ind (q t)) (λ t. w t *ℤ ind (v t)) L
    ∙ ap (λ s. s +ℤ Sum (λ t. w t *ℤ ind (v t)) L) (sum-add (λ t. w t *ℤ ind (p t)) (λ t. w t *ℤ ind (q t)) L))
    ∙ sum_on
    (all_map (λ t e. times-three (w t) (ind (p t)) (ind (q t)) (ind (v t)) ∙ ap (λ s. w t *ℤ s) e ∙ sym (times (w t) (ind (r t)) (ind (u t)))) h)
    ∙ sum-add (λ t. w t *ℤ ind (r t)) (λ t. w t *ℤ ind (u t)) L

-- one member more, which passes or does not
pub keep-yes : {A : Type 0} (p : A → Bool) (t : A) (L : List A) → p t ≡ true → keep p (t ∷ L) ≡ t ∷ keep p L
unfolding keep keep_if
keep-yes p t L e = rw e

pub keep_no : {A : Type 0} (p : A → Bool) (t : A) (L : List A) → p t ≡ false → keep p (t ∷ L) ≡ keep p L
unfolding keep keep_if
keep_no p t L e = rw e

pub keep_append : {A : Type 0} (p : A → Bool) (K L : List A) → keep p (K ++ L) ≡ keep p K ++ keep p L
unfolding keep keep_if
keep_append p [] L = refl
keep_append {A} p (t ∷ K) L = go (p t) (keep_append p K L)
  where
    go : (c : Bool) → keep p (K ++ L) ≡ keep p K ++ keep p L → keep_if c t (keep p (K ++ L)) ≡ keep_if c t (keep p K) ++ keep p L
    go true h = ap (λ (l : List A). t ∷ l) h
    go false h = h

pub keep-none : {A : Type 0} (p : A → Bool) {L : List A} → All (λ t. p t ≡ false) L → keep p L ≡ []
unfolding keep keep_if
keep-none p none = refl
keep-none p (also e h) = rw e (keep-none p h)

sum-keep_if : {A : Type 0} (f : A → ℤ) (c : Bool) (t : A) (K : List A) {s : ℤ} → Sum f K ≡ s → Sum f (keep_if c t K) ≡ f t *ℤ ind c +ℤ s
unfolding Sum keep_if
sum-keep_if f true t K {s} e = ap (λ r. f t +ℤ r) e ∙ one_more (f t) s
  where
    one_more : (a b : ℤ) → a +ℤ b ≡ a *ℤ pos 1 +ℤ b
    one_more a b = ring (a ∷ b ∷ []) (search reads depth 20 fits 5000) tt
sum-keep_if f false t K {s} e = e ∙ no_more (f t) s
  where
    no_more : (a b : ℤ) → b ≡ a *ℤ pos 0 +ℤ b
    no_more a b = ring (a ∷ b ∷ []) (search reads depth 20 fits 5000) tt

pub sum-keep : {A : Type 0} (f : A → ℤ) (p : A → Bool) (L : List A) → Sum f (keep p L) ≡ Over f p L
unfolding Sum Over keep
sum-keep f p [] = refl
sum-keep f p (t ∷ L) = sum-keep_if f (p t) t (keep p L) (sum-keep f p L)

-- in two parts
pub sum-split : {A : Type 0} (f : A → ℤ) (p : A → Bool) (L : List A) → Sum f L ≡ Sum f (keep p L) +ℤ Sum f (keep (λ t. not (p t)) L)
unfolding Over
sum-split f p L =
    sum_same L (λ t. one (f t) (p t))
    ∙ sum-add (λ t. f t *ℤ ind (p t)) (λ t. f t *ℤ ind (not (p t))) L
    ∙ sym (ap₂ ◌+ℤ◌ (sum-keep f p L) (sum-keep f (λ t. not (p t)) L))
  where
    one : (a : ℤ) (c : Bool) → a ≡ a *ℤ ind c +ℤ a *ℤ ind (not c)
    one a true = ring (a ∷ []) (search reads depth 20 fits 5000) tt
    one a false = ring (a ∷ []) (search reads depth 20 fits 5000) tt

both_tests : (a : ℤ) (p q : Bool) → (a *ℤ ind q) *ℤ ind p ≡ a *ℤ ind (p && q)
both_tests a true q = ring (a ∷ ind q ∷ []) (search reads depth 20 fits 5000) tt
both_tests a false q = ring (a ∷ ind q ∷ []) (search reads depth 20 fits 5000) tt

pub over-keep : {A : Type 0} (w : A → ℤ) (p q : A → Bool) (L : List A) → Over w q (keep p L) ≡ Over w (λ t. p t && q t) L
unfolding Over
over-keep w p q L = sum-keep (λ t. w t *ℤ ind (q t)) p L ∙ sum_same L (λ t. both_tests (w t) (p t) (q t))

all-keep_if : {A : Type 0} {P : A → Type 0} (p : A → Bool) (c : Bool) (t : A) (K : List A)
    → p t ≡ c → P t → All (λ s. (p s ≡ true) × P s) K → All (λ s. (p s ≡ true) × P s) (keep_if c t K)
unfolding keep_if
all-keep_if p true t K e h k = also (e, h) k
all-keep_if p false t K e h k = k

-- what is kept passes, and has what all have
pub all_keep : {A : Type 0} {P : A → Type 0} (p : A → Bool) {L : List A} → All P L → All (λ t. (p t ≡ true) × P t) (keep p L)
unfolding keep
all_keep p none = none
all_keep p (also {t = t} {L = L} h k) = all-keep_if p (p t) t (keep p L) refl h (all_keep p k)

pairs_keep_if : {A : Type 0} {R : A → A → Type 0} (c : Bool) (t : A) (K : List A) → All (R t) K → Pairs R K → Pairs R (keep_if c t K)
unfolding keep_if
pairs_keep_if true t K h k = pair h k
pairs_keep_if false t K h k = k

pub pairs_keep : {A : Type 0} {R : A → A → Type 0} (p : A → Bool) {L : List A} → Pairs R L → Pairs R (keep p L)
unfolding keep
pairs_keep p no_pair = no_pair
pairs_keep p (pair {t = t} {L = L} h k) = pairs_keep_if (p t) t (keep p L) (all_map (λ s m. m.1) (all_keep p h)) (pairs_keep p k)

-- and whatever passes is kept
pub in_keep : {A : Type 0} (p : A → Bool) {e : A} {L : List A} → p e ≡ true → In e L → In e (keep p L)
unfolding keep keep_if
in_keep p {e} q (here {L = L}) = rw q here
in_keep p {e} q (there {t = t} {L = L} i) = go (p t) (in_keep p q i)
  where
    go : (c : Bool) → In e (keep p L) → In e (keep_if c t (keep p L))
    go true j = there j
    go false j = j
