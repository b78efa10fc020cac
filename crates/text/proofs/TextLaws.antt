-- Laws of the text: a number's digits one by one, its sign, a line by its pairs, the first of the lines.
use Rattle.std.specs.Prelude.{◌≡◌, refl, Bool, true, false, cond, List, [], ◌∷◌, ◌++◌, ℕ, zero, suc, ◌+◌, ◌-◌, ◌*◌, ◌/◌, ◌%◌, ◌<◌, ◌≤◌, ltb, ℤ, pos, negsuc, nat_abs, length, get_or, take}
use Rattle.std.proofs.Common.{◌∙◌, append_assoc, append-nil, add-one, arith}
use Rattle.std.proofs.lemmas.List.{get_or-take}
use Rattle.std.specs.Int.Signed.{lt_z}
use borrow.Author.Tests.{lt-ltb, le-ltb, lt-leb, le-leb, ltb-true}
use Rattle.whole.specs.Kind.{row_at}
use Rattle.geom.specs.declared.Segment.{Segment}
use Rattle.geom.specs.Rows.{segments}
use Rattle.overlay.specs.Numbers.{Told, refusal}
use Rattle.text.specs.Text.{newline, digits_within, decimal, number, spaced, line, lines_from, head, written}

-- ---- digits

pub digits_none : (n : ℕ) {k : ℕ} → k ≡ 0 → digits_within k n ≡ []
unfolding digits_within
digits_none n e = rw e

digits_some : {k : ℕ} (n : ℕ) → 1 ≤ k → digits_within k n ≡ cond (ltb n 10) ((48 + n) ∷ []) (digits_within (k - 1) (n / 10) ++ ((48 + n % 10) ∷ []))
unfolding digits_within
digits_some {k = zero} n h = absurd (omega arith)
digits_some {k = suc k} n h = let e : suc k - 1 ≡ k = omega arith in rw e

pub digits_one : {k n : ℕ} → 1 ≤ k → n < 10 → digits_within k n ≡ (48 + n) ∷ []
digits_one {k} {n} h l = digits_some n h ∙ rw (lt-ltb n 10 l)

pub digits_more : {k n : ℕ} → 1 ≤ k → 10 ≤ n → digits_within k n ≡ digits_within (k - 1) (n / 10) ++ ((48 + n % 10) ∷ [])
digits_more {k} {n} h l = digits_some n h ∙ rw (le-ltb n 10 l)

-- ---- numbers and lines

pub number-under : (z : ℤ) → lt_z z (pos 0) ≡ true → number z ≡ 45 ∷ decimal (nat_abs z)
unfolding number
number-under (pos n) e = let l : n < 0 = ltb-true n 0 e in absurd (omega arith)
number-under (negsuc n) e = refl

pub number-over : (z : ℤ) → lt_z z (pos 0) ≡ false → number z ≡ decimal (nat_abs z)
unfolding number
number-over (pos n) e = refl
number-over (negsuc n) e = let no : ◌≡◌ {A = Bool} true false = e in cc

pub line_pairs : (v : Segment) (byte : ℕ)
    → line v byte ≡ spaced (v.a.x.0 ∷ v.a.y.0 ∷ []) ++ spaced (v.b.x.0 ∷ v.b.y.0 ∷ []) ++ spaced (v.subject.0 ∷ v.clip.0 ∷ []) ++ decimal byte ++ newline
unfolding line spaced
line_pairs v byte = simp append_assoc

pub lines_first : (rows : List ℤ) (bytes : List ℕ) (m i : ℕ) → i < m
    → lines_from rows bytes i (m - i) ≡ line (row_at segments rows i) (get_or bytes i 0) ++ lines_from rows bytes (i + 1) (m - (i + 1))
unfolding lines_from
lines_first rows bytes m i h =
    let left : m - i ≡ suc (m - (i + 1)) = omega arith in
    rw (left, add-one i)

-- the bytes behind those of the rows are not read
pub lines_taken : (rows : List ℤ) (bytes : List ℕ) (m i n : ℕ) → i + n ≤ m → lines_from rows (take m bytes) i n ≡ lines_from rows bytes i n
unfolding lines_from
lines_taken rows bytes m i zero h = refl
lines_taken rows bytes m i (suc n) h = rw (get_or-take m bytes i 0 (omega (arith, h)), lines_taken rows bytes m (suc i) n (omega (arith, h)))

-- ---- the lists have the rows, or not
module _ (t : Told) (rows : List ℤ) (bytes : List ℕ) where
  pub over_limit : 2048 < t.segments → written t rows bytes ≡ []
  unfolding written
  over_limit h = rw (lt-leb t.segments 2048 h)

  pub few_rows : t.segments ≤ 2048 → length rows < 6 * t.segments → written t rows bytes ≡ []
  unfolding written
  few_rows l h = rw (le-leb t.segments 2048 l, lt-leb (6 * t.segments) (length rows) h)

  pub few_bytes : t.segments ≤ 2048 → 6 * t.segments ≤ length rows → length bytes < t.segments → written t rows bytes ≡ []
  unfolding written
  few_bytes l r h = rw (le-leb t.segments 2048 l, le-leb (6 * t.segments) (length rows) r, lt-leb t.segments (length bytes) h)

  pub written_all : t.segments ≤ 2048 → 6 * t.segments ≤ length rows → t.segments ≤ length bytes → written t rows bytes ≡ head t.number t.segments ++ lines_from rows bytes 0 t.segments
  unfolding written
  written_all l r h = rw (le-leb t.segments 2048 l, le-leb (6 * t.segments) (length rows) r, le-leb t.segments (length bytes) h)

-- a refusal is one line
pub written-refusal : (k : ℕ) (rows : List ℤ) (bytes : List ℕ) → written (refusal k) rows bytes ≡ head k 0
unfolding lines_from
written-refusal k rows bytes = written_all (refusal k) rows bytes (omega arith) (omega arith) (omega arith) ∙ append-nil (head k 0)
