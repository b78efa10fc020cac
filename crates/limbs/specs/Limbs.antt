-- Document 01, "The run", **Crossing**, the middle point: products that need two limbs, and offsets rounded to nearest. Both are on sizes, where a half up is
-- a half away from zero; the caller sets the sign.
use Rattle.std.specs.Prelude.{◌≡◌, refl, Result, Ok, Err, cond, eqb, ltb, ℕ, ◌+◌, ◌-◌, ◌*◌, ◌/◌, ◌%◌, ◌^◌}
use Rattle.std.proofs.Common.{div-add-mod'}
use Rattle.limbs.specs.declared.Two.{Two}
use Rattle.limbs.specs.declared.Quotient.{Quotient}
use Rattle.limbs.specs.declared.DivisionError.{DivisionError}
use Rattle.limbs.specs.declared.DivisionError.TheVariants.{NoDivisor, TooLarge}

-- the number that two words are
abbrev pub value : Two → ℕ
value n = n.high * 2 ^ 64 + n.low

-- a number as two words
abbrev pub two_of : ℕ → Two
two_of n = record { high = n / 2 ^ 64; low = n % 2 ^ 64 }

-- a quotient and what it leaves
abbrev pub quotient_of : ℕ → ℕ → Quotient
quotient_of n d = record { whole = n / d; rest = n % d }

-- rounded to nearest, a half up
abbrev pub rounded_of : ℕ → ℕ → ℕ
rounded_of n d = (2 * n + d) / (2 * d)

-- where there is a divisor and a word holds the quotient, that quotient
unfoldable pub nearest_of : ℕ → ℕ → Result ℕ DivisionError
nearest_of n d = cond (eqb d 0) (Err NoDivisor) (cond (ltb (rounded_of n d) (2 ^ 64)) (Ok (rounded_of n d)) (Err TooLarge))

-- two words are settled by the number that they are
pub two-value : (t : Two) (n : ℕ) → t ≡ two_of n → value t ≡ n
two-value t n e = rw e (div-add-mod' n (2 ^ 64))

-- ---- cases

half_up : nearest_of 7 2 ≡ Ok 4
unfolding nearest_of
half_up = refl

half_up_too : nearest_of 5 2 ≡ Ok 3
unfolding nearest_of
half_up_too = refl

third-down : nearest_of 1 3 ≡ Ok 0
unfolding nearest_of
third-down = refl

two_words_by_one : nearest_of (2 ^ 93) (2 ^ 62 + 1) ≡ Ok (2 ^ 31)
unfolding nearest_of
two_words_by_one = refl

no_divisor : nearest_of 7 0 ≡ Err NoDivisor
unfolding nearest_of
no_divisor = refl

-- the last word and a half, and the last word
too_large : nearest_of (2 ^ 65 - 1) 2 ≡ Err TooLarge
unfolding nearest_of
too_large = refl

last_word : nearest_of (2 ^ 65 - 2) 2 ≡ Ok (2 ^ 64 - 1)
unfolding nearest_of
last_word = refl
