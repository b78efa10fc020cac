-- Numbers in bytes: big-endian, four bytes each, unsigned or in two's complement ("Crossings and runs worked by hand").
use Rattle.std.specs.Prelude.{cond, List, [], ◌∷◌, ℕ, zero, suc, ◌+◌, ◌*◌, ◌^◌, ltb, ℤ, pos, ◌-ℤ◌, get_or}

-- the number of the four bytes from place k on, the first the weightiest
abbrev pub word_at : List ℕ → ℕ → ℕ
word_at bs k = ((get_or bs k 0 * 256 + get_or bs (k + 1) 0) * 256 + get_or bs (k + 2) 0) * 256 + get_or bs (k + 3) 0

-- two's complement: from 2^31 on, 2^32 less
unfoldable pub signed : ℕ → ℤ
signed u = cond (ltb u (2 ^ 31)) (pos u) (pos u -ℤ pos (2 ^ 32))

-- so many signed numbers from place k on
unfoldable pub numbers_from : List ℕ → ℕ → ℕ → List ℤ
numbers_from bs k zero = []
numbers_from bs k (suc m) = signed (word_at bs k) ∷ numbers_from bs (k + 4) m
