-- An answer as text: `answer m`, then m lines `ax ay bx by subject clip byte` ("Crossings and runs worked by hand").
use Rattle.std.specs.Prelude.{Bool, cond, ◌&&◌, List, [], ◌∷◌, ◌++◌, ℕ, zero, suc, ◌+◌, ◌*◌, ◌/◌, ◌%◌, ltb, leb, ℤ, pos, negsuc, length, get_or}
use Rattle.whole.specs.Kind.{row_at}
use Rattle.geom.specs.declared.Segment.{Segment}
use Rattle.geom.specs.Limits.{segment_limit}
use Rattle.geom.specs.Rows.{numbers, segments}
use Rattle.overlay.specs.Numbers.{Told}

abbrev pub space : List ℕ
space = 32 ∷ []

abbrev pub newline : List ℕ
newline = 10 ∷ []

-- the decimal digits of a number that has at most k
unfoldable pub digits_within : ℕ → ℕ → List ℕ
digits_within zero n = []
digits_within (suc k) n = cond (ltb n 10) ((48 + n) ∷ []) (digits_within k (n / 10) ++ ((48 + n % 10) ∷ []))

-- of a number of 64 bits
abbrev pub decimal : ℕ → List ℕ
decimal n = digits_within 20 n

unfoldable pub number : ℤ → List ℕ
number (pos n) = decimal n
number (negsuc n) = 45 ∷ decimal (suc n)

unfoldable pub spaced : List ℤ → List ℕ
spaced [] = []
spaced (z ∷ zs) = number z ++ space ++ spaced zs

unfoldable pub line : Segment → ℕ → List ℕ
line v byte = spaced (numbers v) ++ decimal byte ++ newline

-- so many lines, from row number i on
unfoldable pub lines_from : List ℤ → List ℕ → ℕ → ℕ → List ℕ
lines_from rows bytes i zero = []
lines_from rows bytes i (suc m) = line (row_at segments rows i) (get_or bytes i 0) ++ lines_from rows bytes (suc i) m

-- the lists have m rows and bytes
abbrev pub holds : ℕ → List ℤ → List ℕ → Bool
holds m rows bytes = leb m segment_limit && leb (6 * m) (length rows) && leb m (length bytes)

unfoldable pub head : ℕ → ℕ → List ℕ
head answer m = decimal answer ++ space ++ decimal m ++ newline

-- nothing where the lists do not have m rows, which no run leaves
unfoldable pub written : Told → List ℤ → List ℕ → List ℕ
written t rows bytes = cond (holds t.segments rows bytes) (head t.number t.segments ++ lines_from rows bytes 0 t.segments) []
