-- Each tool of this crate on a goal of the kind it is for. Nothing is used elsewhere.
use Rattle.std.specs.Prelude.{◌≡◌, refl, Bool, true, false, cond, not, List, [], ◌∷◌, ◌++◌, map, ◌≢◌, ℕ, ◌*◌, ◌<◌, ◌≤◌, ◌^◌, ℤ, pos, ◌+ℤ◌, ◌-ℤ◌, ◌*ℤ◌, length, get_or, take, drop, ◌≤ℤ◌, ◌<ℤ◌}
use Rattle.std.proofs.Common.{◌∙◌, ap, ap₂, arith, SFits, to_z, of_z}
use Rattle.std.specs.Int.Signed.{mag, lt_z, le_z}
use Rattle.std.specs.Int.{w32, w64}
use Rattle.whole.specs.Order.{zz, zc, add_is, sub_is}
use Rattle.whole.specs.Ring.{reads}
use Rattle.whole.proofs.RingLaws.{ring}
use Rattle.whole.proofs.CompareLaws.{in≤, out≤}
use Rattle.whole.proofs.SignLaws.{mul_nonneg, mul_mono, cancel_le}
use Rattle.whole.specs.Fit.{apart, abs-mul-lt, fits-abs}
use Rattle.whole.specs.Test.{tests, eq_z}
use Rattle.whole.proofs.TestLaws.{lt_of}
use Rattle.whole.specs.Decide.{Decides, both}
use Rattle.whole.proofs.DecideLaws.{lt?, le?}
use Rattle.whole.specs.Words.{below}
use Rattle.whole.specs.Sum.{Pairs, Sum, keep, sum_const}
use Rattle.whole.proofs.SumLaws.{sum-append, sum-scale, sum-sub, sum-map, sum-perm, sum-swap, sum-split, all_of}
use Rattle.whole.specs.Total.{Total}
use Rattle.whole.specs.Sorting.{Perm, Sorted, sort, insert}
use Rattle.whole.proofs.SortingLaws.{unique, is_sort, sort-perm, sort_sorted, sort-length}
use Rattle.whole.specs.Swap.{swap, swap-perm}
use Rattle.whole.specs.Lex.{lex, pick, lex-order, whole}
use Rattle.whole.specs.Rows as rows
use Rattle.whole.specs.Kind.{Kind, row_at, put_row, rows_from, front}
use Rattle.whole.proofs.KindLaws.{length-rows, length_front}
use Rattle.whole.specs.KindSort.{by_numbers}
use Rattle.whole.proofs.KindSortLaws.{sorted_front}
use Rattle.whole.specs.Pass.{pass}
use Rattle.whole.specs.Distinct.{distinct}
use Rattle.whole.proofs.DistinctLaws.{distinct_apart}
use Rattle.whole.specs.Append.{put_all, Added}
use Rattle.whole.specs.AppendLaws.{added_more}
use Rattle.whole.proofs.AppendLaws.{all-front}

-- ---- identities: the turn of three points, over 0 where the third lies left of the way from the first to the second

abbrev turn : ℤ → ℤ → ℤ → ℤ → ℤ → ℤ → ℤ
turn ox oy px py qx qy = (px -ℤ ox) *ℤ (qy -ℤ oy) -ℤ (py -ℤ oy) *ℤ (qx -ℤ ox)

-- five points, ten variables, degree 4
five_points : (ox oy px py qx qy rx ry sx sy : ℤ)
    → turn ox oy px py qx qy *ℤ turn ox oy rx ry sx sy +ℤ turn ox oy px py sx sy *ℤ turn ox oy qx qy rx ry
    ≡ turn ox oy px py rx ry *ℤ turn ox oy qx qy sx sy
five_points ox oy px py qx qy rx ry sx sy =
    ring (ox ∷ oy ∷ px ∷ py ∷ qx ∷ qy ∷ rx ∷ ry ∷ sx ∷ sy ∷ []) (search reads depth 40 fits 50000) tt

-- ---- order: two points of a box whose sides are at most w, from ten hypotheses

within : (lx ly hx hy px py qx qy w : ℤ) → lx ≤ℤ px → px ≤ℤ hx → ly ≤ℤ py → py ≤ℤ hy → lx ≤ℤ qx → qx ≤ℤ hx → ly ≤ℤ qy → qy ≤ℤ hy
    → (hx -ℤ lx) ≤ℤ w → (hy -ℤ ly) ≤ℤ w → ((px -ℤ qx) +ℤ (py -ℤ qy)) ≤ℤ (w +ℤ w)
within lx ly hx hy px py qx qy w a b c d e f g h i j =
    omega (zz, sub_is hx lx, sub_is hy ly, sub_is px qx, sub_is py qy, add_is (px -ℤ qx) (py -ℤ qy), add_is w w)

-- a branch of code: its tests are equations
between : (a b c : ℤ) → lt_z a b ≡ true → lt_z c b ≡ false → a <ℤ c
between a b c p q = omega zc

-- ---- signs

-- slopes p/q ≤ r/s ≤ t/u with positive q, s, u, cross-multiplied
slopes : (p q r s t u : ℤ) → pos 0 <ℤ q → pos 0 <ℤ s → pos 0 <ℤ u → (p *ℤ s) ≤ℤ (r *ℤ q) → (r *ℤ u) ≤ℤ (t *ℤ s) → (p *ℤ u) ≤ℤ (t *ℤ q)
slopes p q r s t u hq hs hu h k =
    let ρ = p ∷ q ∷ r ∷ s ∷ t ∷ u ∷ [] in
    let a = mul_mono {a = p *ℤ s} {b = r *ℤ q} u (omega zz) h in
    let b = mul_mono {a = r *ℤ u} {b = t *ℤ s} q (omega zz) k in
    cancel_le {a = p *ℤ u} {b = t *ℤ q} s hs
    (out≤ ρ (search reads depth 20 fits 5000) (omega (arith, in≤ ρ (search reads depth 20 fits 5000) a, in≤ ρ (search reads depth 20 fits 5000) b)))

-- larger with larger
rearranged : (a b c d : ℤ) → a ≤ℤ b → c ≤ℤ d → (a *ℤ d +ℤ b *ℤ c) ≤ℤ (a *ℤ c +ℤ b *ℤ d)
rearranged a b c d h k =
    let ρ = a ∷ b ∷ c ∷ d ∷ [] in
    let m = mul_nonneg {a = b -ℤ a} {b = d -ℤ c} (omega (zz, sub_is b a)) (omega (zz, sub_is d c)) in
    out≤ ρ (search reads depth 20 fits 5000) (omega (arith, in≤ ρ (search reads depth 20 fits 5000) m))

-- ---- fitting: a product of two differences of numbers from -2^30 to 2^30 - 1, in 64 bits

product : (a b c d : ℤ) → mag a < 2 ^ 30 → mag b < 2 ^ 30 → mag c < 2 ^ 30 → mag d < 2 ^ 30 → SFits w64 ((a -ℤ b) *ℤ (c -ℤ d))
product a b c d p q r s =
    let small = abs-mul-lt (a -ℤ b) (c -ℤ d) (apart (2 ^ 30) a b p q) (apart (2 ^ 30) c d r s) in
    fits-abs w64 ((a -ℤ b) *ℤ (c -ℤ d)) (omega (arith, small))

-- ---- tests: a definition that branches, where the order is known

largest : ℤ → ℤ → ℤ
largest a b = cond (lt_z a b) b a

largest_is : (a b : ℤ) → a ≡ b → largest a b ≡ a
unfolding largest
largest_is a b e = simp (tests, e)

-- a test made of tests decides the sentence made of theirs
inside? : (a b z : ℤ) → Decides ((a ≤ℤ z) × (z <ℤ b)) (cond (le_z a z) (lt_z z b) false)
inside? a b z = both (le? a z) (lt? z b)

-- two numbers read into locals, off their bits
compared : (x y : ℤ) → mag x < 2 ^ 31 → mag y < 2 ^ 31 → lt_z (to_z w32 (of_z w32 x)) (to_z w32 (of_z w32 y)) ≡ true → x <ℤ y
compared x y p q e = lt_of (below w32 x y p q e)

-- ---- sums

-- in two parts, each scaled
in_parts : {A : Type 0} (f : A → ℤ) (k : ℤ) (K L : List A) → Sum (λ t. k *ℤ f t) (K ++ L) ≡ k *ℤ Sum f K +ℤ k *ℤ Sum f L
in_parts f k K L = sum-append (λ t. k *ℤ f t) K L ∙ ap₂ ◌+ℤ◌ (sum-scale k f K) (sum-scale k f L)

-- those that pass a test and those that do not
by_test : {A : Type 0} (f : A → ℤ) (p : A → Bool) (L : List A) → Sum f L ≡ Sum f (keep p L) +ℤ Sum f (keep (λ t. not (p t)) L)
by_test f p L = sum-split f p L

-- where first and second ends hold the same, the rises cancel
balanced : {E N : Type 0} (a b : E → N) (height : N → ℤ) (L : List E) → Perm (map b L) (map a L)
    → Sum (λ t. height (b t) -ℤ height (a t)) L ≡ pos 0
balanced a b height L p =
    let s = Sum height (map a L) in
    sum-sub (λ t. height (b t)) (λ t. height (a t)) L
    ∙ rw (← (sum-map height b L), ← (sum-map height a L), sum-perm height (map b L) (map a L) p)
    (ring (s ∷ []) (search reads depth 20 fits 5000) tt)

-- counted by rows is counted by columns
by_columns : {A B : Type 0} (w : A → B → ℤ) (K : List A) (L : List B) → Sum (λ s. Sum (w s) L) K ≡ Sum (λ t. Sum (λ s. w s t) K) L
by_columns w K L = sum-swap w K L

twos : {A : Type 0} (L : List A) → Sum (λ t. pos 2) L ≡ pos (length L) *ℤ pos 2
twos L = sum_const (all_of L (λ t. refl))

-- ---- order of lists: what is sorted does not depend on where it stood

sort-swap : {A : Type 0} {le : A → A → Bool} (o : Total le) (d : A) (xs : List A) (i j : ℕ) → i < j → j < length xs → sort le (swap d xs i j) ≡ sort le xs
sort-swap o d xs i j p q =
    is_sort o xs (sort _ (swap d xs i j)) (sort_sorted o (swap d xs i j)) (λ f. swap-perm d xs i j p q f ∙ sort-perm o (swap d xs i j) f)

one-order : (xs ys : List (List ℤ)) → Sorted (lex lt_z) xs → Sorted (lex lt_z) ys → Perm xs ys → xs ≡ ys
one-order = unique (lex-order whole)

-- ---- rows: a place of two numbers

record Place : Type 0 where
  row : ℤ
  column : ℤ

abbrev place : ℤ → ℤ → Place
place r c = record { row = r; column = c }

abbrev numbers : Place → List ℤ
numbers p = p.row ∷ p.column ∷ []

abbrev make : List ℤ → Place
make l = place (get_or l 0 (pos 0)) (get_or l 1 (pos 0))

numbered : (l : List ℤ) → 2 ≤ length l → numbers (make l) ≡ take 2 l
numbered [] h = absurd (omega arith)
numbered (a ∷ []) h = absurd (omega arith)
numbered (a ∷ b ∷ t) h = refl

short : (l : List ℤ) → make (take 2 l) ≡ make l
short [] = refl
short (a ∷ []) = refl
short (a ∷ b ∷ t) = refl

abbrev places : Kind Place
places = record { width = 2; numbers = numbers; make = make; sized = λ v. refl; made = λ v t. refl; numbered = numbered; short = short }

abbrev three : List ℤ
three = pos 5 ∷ pos 1 ∷ pos 2 ∷ pos 7 ∷ pos 2 ∷ pos 3 ∷ []

read : row_at places three 1 ≡ place (pos 2) (pos 7)
unfolding row_at
read = refl

written : put_row places three 1 (place (pos 8) (pos 9)) ≡ pos 5 ∷ pos 1 ∷ pos 8 ∷ pos 9 ∷ pos 2 ∷ pos 3 ∷ []
unfolding put_row
written = refl

in_order : sort (by_numbers places lt_z) (rows_from places three 0 3) ≡ place (pos 2) (pos 3) ∷ place (pos 2) (pos 7) ∷ place (pos 5) (pos 1) ∷ []
unfolding rows_from row_at sort insert lex pick
in_order = refl

-- what a sort of numbers promises, as records in order; and the list keeps its length
module _ (xs ys : List ℤ) (fits : 2 * 3 ≤ length xs) (h : ys ≡ rows.flat (sort (lex lt_z) (rows.rows_of 2 3 xs)) ++ drop (3 * 2) xs) where
  records : ys ≡ front places xs (sort (by_numbers places lt_z) (rows_from places xs 0 3))
  records = sorted_front places lt_z 3 xs fits h

  kept : length ys ≡ length xs
  kept =
      let vs = sort (by_numbers places lt_z) (rows_from places xs 0 3) in
      let n : length vs ≡ 3 = sort-length (by_numbers places lt_z) (rows_from places xs 0 3) ∙ length-rows places xs 0 3 in
      ap length records ∙ length_front places xs vs (omega (arith, n))

-- repeats dropped
once : distinct eq_z (pos 2 ∷ pos 2 ∷ pos 3 ∷ []) ≡ pos 2 ∷ pos 3 ∷ []
unfolding distinct pass
once = refl

each_once : {A : Type 0} {le : A → A → Bool} (o : Total le) (eq : A → A → Bool) (d : (x y : A) → Decides (x ≡ y) (eq x y)) (xs : List A)
    → Pairs ◌≢◌ (distinct eq (sort le xs))
each_once {le = le} o eq d xs = distinct_apart o eq d (sort le xs) (sort_sorted o xs)

-- ---- rows that come one after the other: two calls that append, and where both find room
module _ (xs : List ℤ) (p q : Place) where
  both_come : (room : ℕ) {ys zs : List ℤ} → Added places room 0 xs (p ∷ []) 1 ys → Added places room 1 ys (q ∷ []) 2 zs → Added places room 0 xs (p ∷ q ∷ []) 2 zs
  both_come room a b = added_more a b

  both_fit : 2 * 2 ≤ length xs → put_all places 2 xs 0 (p ∷ q ∷ []) ≡ front places xs (p ∷ q ∷ [])
  both_fit h = all-front places 2 xs (p ∷ q ∷ []) (omega arith) h
