-- Pieces one after the other, and the list with their rows: pieces through some points come before those through the points after them (`pieces-through`);
-- rows are written before or after rows that stand (`rows_before`, `rows-after`); one piece, or one column, is one step of the way along the chain.
use mathlib.Core.Path.{◌≡◌, refl, sym, ap, ◌∙◌}
use mathlib.Core.Bool.{Bool, cond}
use mathlib.Core.List.{List, [], ◌∷◌, ◌++◌, reverse}
use Prim.Native.Nat.{ℕ, zero, suc, ◌+◌, ◌*◌, ◌<◌}
use native.Mathlib.Nat.{add-zero}
use native.Mathlib.Omega.{arith}
use lib.IntN.{ℤ}
use lib.ListN.{length, set}
use lib.Seq.{sets}
use lib.Signed.{lt_z}
use Rattle.whole.specs.Kind.{flat, put_row, row_at}
use Rattle.whole.specs.KindLaws.{length-flat}
use Rattle.whole.proofs.KindLaws.{sets_flat, row_before}
use Rattle.geom.specs.declared.Point.{Point}
use Rattle.geom.specs.declared.Segment.{Segment}
use Rattle.geom.specs.Rows.{segments}
use Rattle.split.specs.Chain.{next_y, last_of, chain_from, pieces_from}
use Rattle.chains.specs.Steps.{piece_of, pieces_to}

pub pieces-through : (v : Segment) (p : Point) (h t : List Point) → pieces_from v p (h ++ t) ≡ pieces_to v p h ++ pieces_from v (last_of p h) t
unfolding pieces_from pieces_to last_of
pieces-through v p [] t = refl
pieces-through v p (q ∷ h) t = ap (λ (l : List Segment). piece_of v p q ∷ l) (pieces-through v q h t)

pub length_to : (v : Segment) (p : Point) (h : List Point) → length (pieces_to v p h) ≡ length h
unfolding pieces_to
length_to v p [] = refl
length_to v p (q ∷ h) = ap suc (length_to v q h)

-- ---- stores

set-set : (l : List ℤ) (i j : ℕ) (x y : ℤ) → i < j → set (set l j y) i x ≡ set (set l i x) j y
set-set [] i j x y h = refl
set-set (z ∷ l) zero zero x y h = absurd (omega arith)
set-set (z ∷ l) zero (suc j) x y h = refl
set-set (z ∷ l) (suc i) zero x y h = absurd (omega arith)
set-set (z ∷ l) (suc i) (suc j) x y h = ap (λ (t : List ℤ). z ∷ t) (set-set l i j x y (omega arith))

set_sets : (ys : List ℤ) (l : List ℤ) (i j : ℕ) (x : ℤ) → i < j → set (sets l j ys) i x ≡ sets (set l i x) j ys
set_sets [] l i j x h = refl
set_sets (y ∷ ys) l i j x h = set_sets ys (set l j y) i (suc j) x (omega arith) ∙ ap (λ (t : List ℤ). sets t (suc j) ys) (set-set l i j x y h)

-- numbers stored just before numbers that were stored
sets_before : (xs ys : List ℤ) (l : List ℤ) (i j : ℕ) → j ≡ i + length xs → sets (sets l j ys) i xs ≡ sets l i (xs ++ ys)
sets_before [] ys l i j e = ap (λ (k : ℕ). sets l k ys) (e ∙ add-zero i)
sets_before (x ∷ xs) ys l i j e =
    ap (λ (t : List ℤ). sets t (suc i) xs) (set_sets ys l i j x (omega arith)) ∙ sets_before xs ys (set l i x) (suc i) j (omega arith)

-- numbers stored just after numbers that were stored
sets_after : (xs ys : List ℤ) (l : List ℤ) (i j : ℕ) → j ≡ i + length xs → sets (sets l i xs) j ys ≡ sets l i (xs ++ ys)
sets_after [] ys l i j e = ap (λ (k : ℕ). sets l k ys) (e ∙ add-zero i)
sets_after (x ∷ xs) ys l i j e = sets_after xs ys (set l i x) (suc i) j (omega arith)

-- ---- rows of segments

flat_append : (us vs : List Segment) → flat segments (us ++ vs) ≡ flat segments us ++ flat segments vs
unfolding flat
flat_append [] vs = refl
flat_append (u ∷ us) vs = ap (λ (t : List ℤ). segments.numbers u ++ t) (flat_append us vs)

abbrev pub rows_at : List ℤ → ℕ → List Segment → List ℤ
rows_at l k vs = sets l (6 * k) (flat segments vs)

pub rows_before : (l : List ℤ) (i j : ℕ) (us vs : List Segment) → j ≡ i + length us → rows_at (rows_at l j vs) i us ≡ rows_at l i (us ++ vs)
rows_before l i j us vs e =
    sets_before (flat segments us) (flat segments vs) l (6 * i) (6 * j) (omega (arith, length-flat segments us)) ∙ ap (sets l (6 * i)) (sym (flat_append us vs))

pub rows-after : (l : List ℤ) (i j : ℕ) (us vs : List Segment) → j ≡ i + length us → rows_at (rows_at l i us) j vs ≡ rows_at l i (us ++ vs)
rows-after l i j us vs e =
    sets_after (flat segments us) (flat segments vs) l (6 * i) (6 * j) (omega (arith, length-flat segments us)) ∙ ap (sets l (6 * i)) (sym (flat_append us vs))

-- one piece more on the way through points
pub piece-step : (l : List ℤ) (k n : ℕ) (v : Segment) (p : Point) {q : Point} {ps rest : List Point} {u : Segment} {m : List ℤ}
    → u ≡ piece_of v p q → m ≡ put_row segments l k u → n ≡ k + 1 → ps ≡ q ∷ rest
    → rows_at m n (pieces_to v q rest) ≡ rows_at l k (pieces_to v p ps)
unfolding pieces_to
piece-step l k n v p {q} {rest} e f g h = rw (f, e, g, h) (sym (sets_flat segments l k (piece_of v p q) (pieces_to v q rest)))

pub last_step : (p : Point) {q : Point} {ps rest : List Point} → ps ≡ q ∷ rest → last_of q rest ≡ last_of p ps
unfolding last_of
last_step p h = sym (ap (last_of p) h)

-- and none
pub piece-none : (l : List ℤ) (k : ℕ) (v : Segment) (p : Point) {ps : List Point} → ps ≡ [] → rows_at l k (pieces_to v p ps) ≡ l
unfolding pieces_to flat
piece-none l k v p h = rw h

pub last_none : (p : Point) {ps : List Point} → ps ≡ [] → last_of p ps ≡ p
unfolding last_of
last_none p h = ap (last_of p) h

-- ---- one column more on the way along the chain

pub chain-step : (v : Segment) (p : Point) {cs : List (List Point)} {g h : List Point} {gs : List (List Point)} {back : Bool}
    → cs ≡ g ∷ gs → back ≡ lt_z (next_y v.b gs) p.y.0 → h ≡ cond back (reverse g) g
    → pieces_from v p (chain_from p v.b cs) ≡ pieces_to v p h ++ pieces_from v (last_of p h) (chain_from (last_of p h) v.b gs)
unfolding chain_from
chain-step v p {h} {gs} e t f = rw (e, ← t, ← f) (pieces-through v p h (chain_from (last_of p h) v.b gs))

pub column-step : (l : List ℤ) (i j : ℕ) (v : Segment) (p : Point) {cs : List (List Point)} {g h : List Point} {gs : List (List Point)} {back : Bool} {q : Point} {m : List ℤ}
    → cs ≡ g ∷ gs → back ≡ lt_z (next_y v.b gs) p.y.0 → h ≡ cond back (reverse g) g → j ≡ i + length h
    → q ≡ last_of p h → m ≡ rows_at l i (pieces_to v p h)
    → rows_at m j (pieces_from v q (chain_from q v.b gs)) ≡ rows_at l i (pieces_from v p (chain_from p v.b cs))
column-step l i j v p {h} {gs} e t f k a b =
    rw (a, b)
    (rows-after l i j (pieces_to v p h) (pieces_from v (last_of p h) (chain_from (last_of p h) v.b gs)) (omega (arith, k, length_to v p h))
    ∙ ap (rows_at l i) (sym (chain-step v p e t f)))

-- and none
pub chain-none : (l : List ℤ) (k : ℕ) (v : Segment) (p : Point) {cs : List (List Point)} {u : Segment} → cs ≡ [] → u ≡ piece_of v p v.b
    → put_row segments l k u ≡ rows_at l k (pieces_from v p (chain_from p v.b cs))
unfolding chain_from pieces_from put_row flat
chain-none l k v p e f = rw (e, f)

-- ---- rows before those that are written

pub row_kept : (l : List ℤ) (k : ℕ) (vs : List Segment) (j : ℕ) → j < k → row_at segments (rows_at l k vs) j ≡ row_at segments l j
unfolding flat
row_kept l k [] j h = refl
row_kept l k (v ∷ vs) j h =
    ap (λ (t : List ℤ). row_at segments t j) (sets_flat segments l k v vs) ∙ row_kept (put_row segments l k v) (k + 1) vs j (omega arith) ∙ row_before segments l k j v h
