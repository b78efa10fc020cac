-- Document 01, "Masks": the fill rules.
use Rattle.std.specs.Prelude.{◌≡◌, refl, Bool, true, false, not, [], ◌∷◌, ℕ, ◌%◌, ◌<◌, eqb, ℤ, pos, negsuc, nat_abs, get_or, Result, MatchResult}
use Rattle.std.specs.Int.Signed.{lt_z}
use Rattle.fills.specs.declared.FillRule.{FillRule}
use Rattle.fills.specs.declared.FillRule.TheVariants.{EvenOdd, NonZero, Positive, Negative}
use Rattle.fills.specs.declared.BadRule.{BadRule}

-- whether a sum of counts is inside by the fill rule of this number ("Input and answer"): EvenOdd, odd, by its size and so below zero too;
-- NonZero, not 0; Positive, over 0; Negative, under 0. By any other number nothing is inside; callers refuse it first.
unfoldable pub inside : ℕ → ℤ → Bool
inside rule sum = get_or (eqb (nat_abs sum % 2) 1 ∷ not (eqb (nat_abs sum) 0) ∷ lt_z (pos 0) sum ∷ lt_z sum (pos 0) ∷ []) rule false

-- the worked case: -1 is odd
pub minus_one : inside 0 (negsuc 0) ≡ true
unfolding inside
minus_one = refl

-- the number of each rule
abbrev pub number_of : FillRule → ℕ
number_of EvenOdd = 0
number_of NonZero = 1
number_of Positive = 2
number_of Negative = 3

-- the rule of this number; a number over 3 has none
abbrev pub RuleOf : ℕ → Result FillRule BadRule → Type 0
RuleOf number r = MatchResult r (λ rule. number_of rule ≡ number) (λ e. 3 < number)
