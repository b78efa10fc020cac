-- The points of marks in a flat list: read one after the other, by columns of equal x, from either end of a column, and in a lent part.
use mathlib.Core.Path.{◌≡◌, refl, sym, ap, ap₂, ◌∙◌}
use mathlib.Core.Bool.{Bool, true, false, cond}
use mathlib.Core.List.{List, [], ◌∷◌, ◌++◌, map, map-append, reverse, reverse-append}
use Prim.Native.Nat.{ℕ, zero, suc, ◌+◌, ◌-◌, ◌*◌, ◌≤◌, ◌<◌}
use native.Mathlib.Omega.{arith}
use lib.IntN.{ℤ, pos}
use lib.ListN.{length, take, drop, get_or, length-map}
use lib.Seq.{take_at, drop_at, get_or-take, get_or-drop}
use Rattle.whole.specs.Kind.{row_at, rows_from}
use Rattle.whole.proofs.KindLaws.{rows_step, rows-done, rows_append, length-rows}
use Rattle.geom.specs.declared.Point.{Point}
use Rattle.geom.specs.Plane.{sameZ}
use Rattle.split.specs.Marks.{marks}
use Rattle.split.specs.Chain.{add_to, columns, next_y}
use Rattle.chains.specs.Steps.{point_at, points, taken, joined}

-- ---- one after the other

pub points-step : (zs : List ℤ) (m i : ℕ) → i < m → points zs i (m - i) ≡ point_at zs i ∷ points zs (i + 1) (m - (i + 1))
points-step zs m i h = ap (map (λ m. m.point)) (rows_step marks zs m i h)

pub points-done : (zs : List ℤ) (m i : ℕ) → m ≤ i → points zs i (m - i) ≡ []
points-done zs m i h = ap (map (λ m. m.point)) (rows-done marks zs m i h)

-- ---- columns

-- the first column: the points after p that stand at its x
pub column-first : (p : Point) (qs : List Point) → columns (p ∷ qs) ≡ (p ∷ take (joined p qs) qs) ∷ columns (drop (joined p qs) qs)
unfolding columns add_to joined
column-first p [] = refl
column-first p (q ∷ qs) = by_test (sameZ p.x.0 q.x.0) refl (column-first q qs)
  where
    by_test : (t : Bool) → sameZ p.x.0 q.x.0 ≡ t
        → columns (q ∷ qs) ≡ (q ∷ take (joined q qs) qs) ∷ columns (drop (joined q qs) qs)
        → columns (p ∷ q ∷ qs) ≡ (p ∷ take (joined p (q ∷ qs)) (q ∷ qs)) ∷ columns (drop (joined p (q ∷ qs)) (q ∷ qs))
    by_test true e more = ap (add_to p) more ∙ rw e
    by_test false e more = ap (add_to p) more ∙ rw (e, more)

pub next_y-first : (b p : Point) (qs : List Point) → next_y b (columns (p ∷ qs)) ≡ p.y.0
unfolding next_y
next_y-first b p qs = ap (next_y b) (column-first p qs)

joined-le : (p : Point) (qs : List Point) → joined p qs ≤ length qs
unfolding joined
joined-le p [] = omega arith
joined-le p (q ∷ qs) = by_test (sameZ p.x.0 q.x.0) (joined-le q qs)
  where
    by_test : (t : Bool) → joined q qs ≤ length qs → cond t (suc (joined q qs)) 0 ≤ suc (length qs)
    by_test true h = omega arith
    by_test false h = omega arith

module _ (p : Point) {ps : List Point} {q : Point} {qs : List Point} (e : ps ≡ q ∷ qs) where
  pub joined-more : sameZ p.x.0 q.x.0 ≡ true → joined p ps ≡ suc (joined q qs)
  unfolding joined
  joined-more h = ap (joined p) e ∙ rw h

  pub joined_stop : sameZ p.x.0 q.x.0 ≡ false → joined p ps ≡ 0
  unfolding joined
  joined_stop h = ap (joined p) e ∙ rw h

pub joined-none : (p : Point) {ps : List Point} → ps ≡ [] → joined p ps ≡ 0
unfolding joined
joined-none p e = ap (joined p) e

pub length-points : (zs : List ℤ) (i k : ℕ) → length (points zs i k) ≡ k
length-points zs i k = length-map (rows_from marks zs i k) (λ m. m.point) ∙ length-rows marks zs i k

points-append : (zs : List ℤ) (i m n : ℕ) → points zs i (m + n) ≡ points zs i m ++ points zs (i + m) n
points-append zs i m n =
    ap (map (λ m. m.point)) (rows_append marks zs i m n) ∙ map-append (λ m. m.point) (rows_from marks zs i m) (rows_from marks zs (i + m) n)

-- the column of mark number g ends before mark number e
module _ (zs : List ℤ) (size g e : ℕ) (h : g < size) (j : e ≡ g + 1 + joined (point_at zs g) (points zs (g + 1) (size - (g + 1)))) where
  abbrev rest : List Point
  rest = points zs (g + 1) (size - (g + 1))

  abbrev k : ℕ
  k = joined (point_at zs g) rest

  pub column-inside : (g < e) × (e ≤ size)
  column-inside = (omega arith, omega (arith, joined-le (point_at zs g) rest, length-points zs (g + 1) (size - (g + 1))))

  pub column-split : columns (points zs g (size - g)) ≡ points zs g (e - g) ∷ columns (points zs e (size - e))
  column-split =
      let in_size : e ≤ size = column-inside.1 in
      let n : size - (g + 1) ≡ k + (size - e) = omega arith in
      let at : g + 1 + k ≡ e = sym j in
      let cut : rest ≡ points zs (g + 1) k ++ points zs e (size - e) =
      ap (points zs (g + 1)) n ∙ points-append zs (g + 1) k (size - e) ∙ ap (λ (i : ℕ). points zs (g + 1) k ++ points zs i (size - e)) at in
      let size-k = length-points zs (g + 1) k in
      let front : take k rest ≡ points zs (g + 1) k = ap (take k) cut ∙ take_at (points zs (g + 1) k) (points zs e (size - e)) k size-k in
      let back : drop k rest ≡ points zs e (size - e) = ap (drop k) cut ∙ drop_at (points zs (g + 1) k) (points zs e (size - e)) k size-k in
      let m : (e - (g + 1)) ≡ k = omega arith in
      ap columns (points-step zs size g h)
      ∙ column-first (point_at zs g) rest
      ∙ ap₂ (λ (c d : List Point). (point_at zs g ∷ c) ∷ columns d) (front ∙ ap (points zs (g + 1)) (sym m)) back
      ∙ ap (λ (c : List Point). c ∷ columns (points zs e (size - e))) (sym (points-step zs e g column-inside.0))

-- ---- a column from either end

pub taken_step : (back : Bool) (zs : List ℤ) (size left : ℕ) → 0 < left
    → taken back zs size left ≡ point_at zs (cond back (left - 1) (size - left)) ∷ taken back zs size (left - 1)
unfolding taken
taken_step back zs size zero h = absurd (omega arith)
taken_step back zs size (suc k) h = let e : suc k - 1 ≡ k = omega arith in rw e

pub taken_none : (back : Bool) (zs : List ℤ) (size left : ℕ) → left ≤ 0 → taken back zs size left ≡ []
unfolding taken
taken_none back zs size zero h = refl
taken_none back zs size (suc k) h = absurd (omega arith)

pub length_taken : (back : Bool) (zs : List ℤ) (size k : ℕ) → length (taken back zs size k) ≡ k
unfolding taken
length_taken back zs size zero = refl
length_taken back zs size (suc k) = ap suc (length_taken back zs size k)

taken_forth : (zs : List ℤ) (size k : ℕ) → k ≤ size → taken false zs size k ≡ points zs (size - k) k
unfolding taken rows_from
taken_forth zs size zero h = refl
taken_forth zs size (suc k) h =
    let e : size - k ≡ suc (size - suc k) = omega arith in
    ap (λ (l : List Point). point_at zs (size - suc k) ∷ l) (taken_forth zs size k (omega arith) ∙ rw e)

taken_back : (zs : List ℤ) (size k : ℕ) → taken true zs size k ≡ reverse (points zs 0 k)
unfolding taken rows_from
taken_back zs size zero = refl
taken_back zs size (suc k) =
    let e : suc k ≡ k + 1 = omega arith in
    let z : 0 + k ≡ k = omega arith in
    ap (λ (l : List Point). point_at zs k ∷ l) (taken_back zs size k)
    ∙ sym (ap reverse (ap (points zs 0) e ∙ points-append zs 0 k 1) ∙ reverse-append (points zs 0 k) (points zs (0 + k) 1) ∙ rw z)

pub taken-all : (back : Bool) (zs : List ℤ) (size : ℕ) → taken back zs size size ≡ cond back (reverse (points zs 0 size)) (points zs 0 size)
taken-all true zs size = taken_back zs size size
taken-all false zs size = let z : size - size ≡ 0 = omega arith in taken_forth zs size size (omega arith) ∙ rw z

-- ---- the marks of a lent part are those of the list

module _ (zs : List ℤ) (a e : ℕ) where
  abbrev part : List ℤ
  part = take (3 * e - 3 * a) (drop (3 * a) zs)

  part_at : (n m : ℕ) → n < 3 * e - 3 * a → m ≡ 3 * a + n → get_or part n (pos 0) ≡ get_or zs m (pos 0)
  part_at n m q r = get_or-take (3 * e - 3 * a) (drop (3 * a) zs) n (pos 0) q ∙ get_or-drop (3 * a) zs n (pos 0) ∙ ap (λ (k : ℕ). get_or zs k (pos 0)) (sym r)

  part-row : (k : ℕ) → k < e - a → row_at marks part k ≡ row_at marks zs (a + k)
  unfolding row_at
  part-row k h =
      simp get_or-drop
      (rw (
        part_at (3 * k + 0) (3 * (a + k) + 0) (omega arith) (omega arith),
        part_at (3 * k + 1) (3 * (a + k) + 1) (omega arith) (omega arith),
        part_at (3 * k + 2) (3 * (a + k) + 2) (omega arith) (omega arith),
      ))

  part-rows : (n k : ℕ) → k + n ≤ e - a → rows_from marks part k n ≡ rows_from marks zs (a + k) n
  unfolding rows_from
  part-rows zero k h = refl
  part-rows (suc n) k h =
      let s : a + suc k ≡ suc (a + k) = omega arith in
      ap₂ ◌∷◌ (part-row k (omega arith)) (part-rows n (suc k) (omega arith) ∙ rw s)

  pub part-points : points part 0 (e - a) ≡ points zs a (e - a)
  part-points = let z : a + 0 ≡ a = omega arith in ap (map (λ m. m.point)) (part-rows (e - a) 0 (omega arith) ∙ ap (λ (k : ℕ). rows_from marks zs k (e - a)) z)
