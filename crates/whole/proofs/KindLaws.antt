-- Laws of rows in a flat list, for rows of any kind R, which each law takes first: what a stored row leaves (`row_put`, `row_other`); how rows are read one
-- after the other (`rows_step` and `rows-done` for a loop; `length-rows`, `rows_at`, `rows_append`, `rows_same`, `rows_put` for a list); and a list with rows at
-- its front (`length_front`, `rows-front`, `row-front`, `row-past`, `drop-front`, `front-front`, `front-rows`). A kind of three numbers is made by `three-numbered` and
-- `three-short`.
use Rattle.std.specs.Prelude.{◌≡◌, ◌≢◌, ℤ, pos, get_or, set}
use Rattle.std.proofs.Math.Path.{refl, sym, ap, ap₂}
use Rattle.std.proofs.Common.{◌∙◌, ⊎_elim, not-suc-le-zero, length-set, ext_get_or, get_or-set_same, get_or-set_other, drop-set-lt, drop_at}
use mathlib.Core.List.{List, [], ◌∷◌, ◌++◌, append_assoc}
use Prim.Native.Nat.{ℕ, zero, suc, ◌+◌, ◌-◌, ◌*◌, ◌≤◌, ◌<◌}
use Rattle.std.proofs.Math.Nat.{add-zero, mul-le-mul_left}
use Rattle.std.proofs.Math.Numerals.{add-one}
use native.Mathlib.Omega.{arith}
use Rattle.std.proofs.Math.ListN.{length, take, drop, length-append, length-drop, take-append-drop}
use Rattle.std.proofs.Math.Seq.{sets, sets-eq, length-sets, drop-drop, length-take-le, take-nil}
use Rattle.std.proofs.lemmas.List.{take-set-le}
use Rattle.whole.specs.Total.{same_or, side}
use Rattle.whole.specs.Kind.{Kind, row_at, put_row, flat, rows_from, front}
use Rattle.whole.specs.KindLaws.{drop-front, length-flat}

-- ---- stores

pub sets_append : {A : Type 0} (xs : List A) (i : ℕ) (vs ws : List A) → sets xs i (vs ++ ws) ≡ sets (sets xs i vs) (i + length vs) ws
sets_append xs i [] ws = rw (add-zero i)
sets_append xs i (v ∷ vs) ws =
    let e : i + suc (length vs) ≡ suc i + length vs = omega arith in
    rw e (sets_append (set xs i v) (suc i) vs ws)

drop_sets : (n : ℕ) (xs : List ℤ) (i : ℕ) (vs : List ℤ) → i + length vs ≤ n → drop n (sets xs i vs) ≡ drop n xs
drop_sets n xs i [] h = refl
drop_sets n xs i (v ∷ vs) h = drop_sets n (set xs i v) (suc i) vs (omega arith) ∙ drop-set-lt n xs i v (omega arith)

take_sets : (n : ℕ) (xs : List ℤ) (i : ℕ) (vs : List ℤ) → n ≤ i → take n (sets xs i vs) ≡ take n xs
take_sets n xs i [] h = refl
take_sets n xs i (v ∷ vs) h = take_sets n (set xs i v) (suc i) vs (omega arith) ∙ take-set-le n xs i v h

take-drop : (k a : ℕ) (l : List ℤ) → take k (drop a l) ≡ drop a (take (a + k) l)
take-drop k zero l = let e : 0 + k ≡ k = omega arith in rw e
take-drop k (suc a) [] = take-nil k ∙ sym (ap (drop (suc a)) (take-nil (suc a + k)))
take-drop k (suc a) (x ∷ l) = let e : suc a + k ≡ suc (a + k) = omega arith in rw e (take-drop k a l)

-- ---- rows of three numbers: what a kind of them asks of making a record

pub three-numbered : (l : List ℤ) → 3 ≤ length l → get_or l 0 (pos 0) ∷ get_or l 1 (pos 0) ∷ get_or l 2 (pos 0) ∷ [] ≡ take 3 l
three-numbered [] h = absurd (omega arith)
three-numbered (a ∷ []) h = absurd (omega arith)
three-numbered (a ∷ b ∷ []) h = absurd (omega arith)
three-numbered (a ∷ b ∷ c ∷ t) h = refl

pub three-short : {A : Type 0} (f : ℤ → ℤ → ℤ → A) (l : List ℤ)
    → f (get_or (take 3 l) 0 (pos 0)) (get_or (take 3 l) 1 (pos 0)) (get_or (take 3 l) 2 (pos 0)) ≡ f (get_or l 0 (pos 0)) (get_or l 1 (pos 0)) (get_or l 2 (pos 0))
three-short f [] = refl
three-short f (a ∷ []) = refl
three-short f (a ∷ b ∷ []) = refl
three-short f (a ∷ b ∷ c ∷ t) = refl

-- ---- rows of any kind
module _ {A : Type 0} (R : Kind A) where
  abbrev w : ℕ
  w = R.width

  pub length_put : (xs : List ℤ) (i : ℕ) (v : A) → length (put_row R xs i v) ≡ length xs
  unfolding put_row
  length_put xs i v = length-sets xs (w * i) (R.numbers v)

  -- one row more
  pub sets_flat : (xs : List ℤ) (i : ℕ) (v : A) (vs : List A) → sets xs (w * i) (flat R (v ∷ vs)) ≡ sets (put_row R xs i v) (w * (i + 1)) (flat R vs)
  unfolding flat put_row
  sets_flat xs i v vs =
      let e : w * i + length (R.numbers v) ≡ w * (i + 1) = omega (arith, R.sized v) in
      sets_append xs (w * i) (R.numbers v) (flat R vs) ∙ ap (λ (n : ℕ). sets (sets xs (w * i) (R.numbers v)) n (flat R vs)) e

  -- all from the front
  pub sets_front : (xs : List ℤ) (vs : List A) → w * length vs ≤ length xs → sets xs (w * 0) (flat R vs) ≡ front R xs vs
  unfolding front
  sets_front xs vs h =
      let z : w * 0 ≡ 0 = omega arith in
      let e : 0 + length (flat R vs) ≡ w * length vs = omega (arith, (length-flat R) vs) in
      rw z (sets-eq (flat R vs) xs 0 (omega (arith, e)) ∙ ap (λ (n : ℕ). flat R vs ++ drop n xs) e)

  -- the rows after the one that is put, and those before it, are as they were
  pub row-after : (xs : List ℤ) (i j : ℕ) (v : A) → i < j → row_at R (put_row R xs i v) j ≡ row_at R xs j
  unfolding row_at put_row
  row-after xs i j v h = ap R.make (drop_sets (w * j) xs (w * i) (R.numbers v) (omega (arith, R.sized v, mul-le-mul_left w h)))

  pub row_before : (xs : List ℤ) (i j : ℕ) (v : A) → j < i → row_at R (put_row R xs i v) j ≡ row_at R xs j
  unfolding row_at put_row
  row_before xs i j v h =
      let ys = sets xs (w * i) (R.numbers v) in
      let t : take (w * j + w) ys ≡ take (w * j + w) xs = take_sets (w * j + w) xs (w * i) (R.numbers v) (omega (arith, mul-le-mul_left w h)) in
      sym (R.short (drop (w * j) ys))
      ∙ ap R.make (take-drop w (w * j) ys ∙ ap (drop (w * j)) t ∙ sym (take-drop w (w * j) xs))
      ∙ R.short (drop (w * j) xs)

  pub row_other : (xs : List ℤ) (i j : ℕ) (v : A) → j ≢ i → row_at R (put_row R xs i v) j ≡ row_at R xs j
  row_other xs i j v e = ⊎_elim (λ (q : j ≤ i). row_before xs i j v (omega arith)) (λ (q : i < j). row-after xs i j v q) (side j i)

  -- and the one that is put is read back
  pub row_put : (xs : List ℤ) (i : ℕ) (v : A) → w * (i + 1) ≤ length xs → row_at R (put_row R xs i v) i ≡ v
  unfolding row_at put_row
  row_put xs i v h =
      let n = w * i in
      let f : n + length (R.numbers v) ≤ length xs = omega (arith, R.sized v) in
      let r = drop (n + length (R.numbers v)) xs in
      ap (λ (l : List ℤ). R.make (drop n l)) (sets-eq (R.numbers v) xs n f ∙ append_assoc (take n xs) (R.numbers v) r)
      ∙ ap R.make (drop_at (take n xs) (R.numbers v ++ r) n (length-take-le n xs (omega arith)))
      ∙ R.made v r

  -- a row put where it stands
  pub put_self : (xs : List ℤ) (i : ℕ) → w * (i + 1) ≤ length xs → put_row R xs i (row_at R xs i) ≡ xs
  unfolding row_at put_row
  put_self xs i h =
      let n = w * i in
      let d = drop n xs in
      let e : R.numbers (R.make d) ≡ take w d = R.numbered d (rw (length-drop n xs) (omega arith)) in
      let k : length (take w d) ≡ w = length-take-le w d (rw (length-drop n xs) (omega arith)) in
      ap (λ (l : List ℤ). sets xs n l) e
      ∙ sets-eq (take w d) xs n (omega arith)
      ∙ rw k
      (ap (λ (l : List ℤ). take n xs ++ take w d ++ l) (sym (drop-drop w n xs))
      ∙ append_assoc (take n xs) (take w d) (drop w d)
      ∙ ap (λ (l : List ℤ). take n xs ++ l) (take-append-drop w d)
      ∙ take-append-drop n xs)

  -- ---- reading rows one after the other

  pub rows_step : (xs : List ℤ) (m i : ℕ) → i < m → rows_from R xs i (m - i) ≡ row_at R xs i ∷ rows_from R xs (i + 1) (m - (i + 1))
  unfolding rows_from
  rows_step xs m i h = let e : m - i ≡ suc (m - suc i) = omega arith in rw (e, add-one i)

  pub rows-done : (xs : List ℤ) (m i : ℕ) → m ≤ i → rows_from R xs i (m - i) ≡ []
  unfolding rows_from
  rows-done xs m i h = let e : m - i ≡ 0 = omega arith in rw e

  -- rows that stand one after the other behind n numbers are read back
  rows_behind : (p : List ℤ) (i : ℕ) (vs : List A) (t : List ℤ) → length p ≡ w * i → rows_from R (p ++ (flat R vs ++ t)) i (length vs) ≡ vs
  unfolding rows_from row_at flat
  rows_behind p i [] t e = refl
  rows_behind p i (v ∷ vs) t e =
      let r = flat R vs ++ t in
      let a : (R.numbers v ++ flat R vs) ++ t ≡ R.numbers v ++ r = append_assoc (R.numbers v) (flat R vs) t in
      let l : p ++ ((R.numbers v ++ flat R vs) ++ t) ≡ (p ++ R.numbers v) ++ r =
      ap (λ (x : List ℤ). p ++ x) a ∙ sym (append_assoc p (R.numbers v) r) in
      let n : length (p ++ R.numbers v) ≡ w * suc i = length-append p (R.numbers v) ∙ omega (arith, R.sized v) in
      let first : R.make (drop (w * i) (p ++ ((R.numbers v ++ flat R vs) ++ t))) ≡ v =
      ap R.make (drop_at p ((R.numbers v ++ flat R vs) ++ t) (w * i) e ∙ a) ∙ R.made v r in
      rw first (ap (λ (x : List A). v ∷ x) (ap (λ (q : List ℤ). rows_from R q (suc i) (length vs)) l ∙ rows_behind (p ++ R.numbers v) (suc i) vs t n))

  pub rows-front : (xs : List ℤ) (vs : List A) → rows_from R (front R xs vs) 0 (length vs) ≡ vs
  unfolding front
  rows-front xs vs = rows_behind [] 0 vs (drop (w * length vs) xs) (omega arith)

  pub length-rows : (xs : List ℤ) (i n : ℕ) → length (rows_from R xs i n) ≡ n
  unfolding rows_from
  length-rows xs i zero = refl
  length-rows xs i (suc n) = ap suc (length-rows xs (suc i) n)

  pub rows_at : (xs : List ℤ) (i n j : ℕ) (d : A) → j < n → get_or (rows_from R xs i n) j d ≡ row_at R xs (i + j)
  unfolding rows_from
  rows_at xs i zero j d h = absurd (not-suc-le-zero h)
  rows_at xs i (suc n) zero d h = rw (add-zero i)
  rows_at xs i (suc n) (suc j) d h = rows_at xs (suc i) n j d (omega arith) ∙ ap (row_at R xs) (omega arith)

  pub rows_append : (xs : List ℤ) (i m n : ℕ) → rows_from R xs i (m + n) ≡ rows_from R xs i m ++ rows_from R xs (i + m) n
  unfolding rows_from
  rows_append xs i zero n = let e : 0 + n ≡ n = omega arith in rw (e, add-zero i)
  rows_append xs i (suc m) n =
      let e : suc m + n ≡ suc (m + n) = omega arith in
      let f : i + suc m ≡ suc i + m = omega arith in
      rw (e, f) (ap (λ (l : List A). row_at R xs i ∷ l) (rows_append xs (suc i) m n))

  -- lists with the same rows
  pub rows_same : (xs ys : List ℤ) (i n : ℕ) → ((k : ℕ) → i ≤ k → k < i + n → row_at R xs k ≡ row_at R ys k) → rows_from R xs i n ≡ rows_from R ys i n
  unfolding rows_from
  rows_same xs ys i zero h = refl
  rows_same xs ys i (suc n) h =
      ap₂ ◌∷◌ (h i (omega arith) (omega arith)) (rows_same xs ys (suc i) n (λ k p q. h k (omega arith) (omega arith)))

  -- the rows of a list where one was put
  pub rows_put : (xs : List ℤ) (n i : ℕ) (v : A) → i < n → w * n ≤ length xs → rows_from R (put_row R xs i v) 0 n ≡ set (rows_from R xs 0 n) i v
  rows_put xs n i v h l =
      let rs = rows_from R xs 0 n in
      let ys = put_row R xs i v in
      let k : length rs ≡ n = length-rows xs 0 n in
      ext_get_or v (rows_from R ys 0 n) (set rs i v) (length-rows ys 0 n ∙ sym (length-set rs i v ∙ k)) (λ j q.
      let m : j < n = omega (arith, length-rows ys 0 n) in
      let z : 0 + j ≡ j = omega arith in
      rows_at ys 0 n j v m
      ∙ rw z
      (⊎_elim
      (λ (e : j ≡ i). rw e (row_put xs i v (omega (arith, mul-le-mul_left w h)) ∙ sym (get_or-set_same rs i v v (omega arith))))
      (λ (e : j ≢ i). row_other xs i j v e ∙ sym (get_or-set_other rs i j v v e ∙ rows_at xs 0 n j v m ∙ ap (row_at R xs) z))
      (same_or j i)))

  -- ---- rows at the front

  pub length_front : (xs : List ℤ) (vs : List A) → w * length vs ≤ length xs → length (front R xs vs) ≡ length xs
  unfolding front
  length_front xs vs h =
      length-append (flat R vs) (drop (w * length vs) xs) ∙ omega (arith, (length-flat R) vs, length-drop (w * length vs) xs)

  pub row-past : (xs : List ℤ) (vs : List A) (i : ℕ) → length vs ≤ i → row_at R (front R xs vs) i ≡ row_at R xs i
  unfolding row_at
  row-past xs vs i h = ap R.make ((drop-front R) xs vs (w * i) (mul-le-mul_left w h))

  pub row-front : (xs : List ℤ) (vs : List A) (i : ℕ) (d : A) → i < length vs → row_at R (front R xs vs) i ≡ get_or vs i d
  row-front xs vs i d h =
      let e : 0 + i ≡ i = omega arith in
      ap (row_at R (front R xs vs)) (sym e)
      ∙ sym (rows_at (front R xs vs) 0 (length vs) i d h)
      ∙ ap (λ (l : List A). get_or l i d) (rows-front xs vs)

  -- as many rows or more, written over rows
  pub front-front : (xs : List ℤ) (us vs : List A) → length us ≤ length vs → front R (front R xs us) vs ≡ front R xs vs
  unfolding front
  front-front xs us vs h = ap (λ (l : List ℤ). flat R vs ++ l) ((drop-front R) xs us (w * length vs) (mul-le-mul_left w h))

  flat_from : (xs : List ℤ) (i n : ℕ) → w * (i + n) ≤ length xs → flat R (rows_from R xs i n) ++ drop (w * (i + n)) xs ≡ drop (w * i) xs
  unfolding flat rows_from row_at
  flat_from xs i zero h = rw (add-zero i)
  flat_from xs i (suc n) h =
      let d = drop (w * i) xs in
      let l : w ≤ length d = rw (length-drop (w * i) xs) (omega arith) in
      let e : i + suc n ≡ suc i + n = omega arith in
      let f : w * i + w ≡ w * suc i = omega arith in
      let vs = flat R (rows_from R xs (suc i) n) in
      rw (R.numbered d l, append_assoc (take w d) vs (drop (w * (i + suc n)) xs), e, flat_from xs (suc i) n (rw (← e) h))
      (ap (λ (t : ℕ). take w d ++ drop t xs) (sym f) ∙ ap (λ (t : List ℤ). take w d ++ t) (sym (drop-drop w (w * i) xs)) ∙ take-append-drop w d)

  -- a list's own rows
  pub front-rows : (xs : List ℤ) (n : ℕ) → w * n ≤ length xs → front R xs (rows_from R xs 0 n) ≡ xs
  unfolding front
  front-rows xs n h =
      let e : 0 + n ≡ n = omega arith in
      let z : w * 0 ≡ 0 = omega arith in
      rw (length-rows xs 0 n)
      (ap (λ (t : ℕ). flat R (rows_from R xs 0 n) ++ drop (w * t) xs) (sym e) ∙ flat_from xs 0 n (rw e h) ∙ ap (λ (t : ℕ). drop t xs) z)
