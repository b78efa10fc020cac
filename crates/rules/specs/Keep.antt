-- Document 01, "Keeping": which edges an overlay rule keeps.
use Rattle.std.specs.Prelude.{Bool, false, not, cond, ◌&&◌, ◌||◌, [], ◌∷◌, ℕ, ◌/◌, ◌%◌, ◌<◌, ◌≡◌, eqb, ℤ, ◌-ℤ◌, get_or, Result, MatchResult}
use Rattle.whole.specs.Sum.{ind}
use Rattle.rules.specs.declared.OverlayRule.{OverlayRule}
use Rattle.rules.specs.declared.OverlayRule.TheVariants.{Subject, Clip, Intersect, Union, Difference, InverseDifference, Xor}
use Rattle.rules.specs.declared.BadRule.{BadRule}

abbrev pub flag : Bool → ℕ
flag t = cond t 1 0

abbrev pub differ : Bool → Bool → Bool
differ a b = cond a (not b) b

-- what holds by the overlay rule of this number ("Input and answer") where s holds of the subject and c of the clip: Subject, Clip,
-- Intersect, Union, Difference, InverseDifference, Xor
abbrev pub truth : ℕ → Bool → Bool → Bool
truth rule s c = get_or (s ∷ c ∷ (s && c) ∷ (s || c) ∷ (s && not c) ∷ (c && not s) ∷ differ s c ∷ []) rule false

abbrev pub bit : ℕ → ℕ → Bool
bit value mask = eqb (mask / value % 2) 1

-- a rule's truth on the two sides of an edge, from the bits of "Masks": subject top 1, subject bottom 2, clip top 4, clip bottom 8
abbrev pub top_of : ℕ → ℕ → Bool
top_of rule mask = truth rule (bit 1 mask) (bit 4 mask)

abbrev pub bottom_of : ℕ → ℕ → Bool
bottom_of rule mask = truth rule (bit 2 mask) (bit 8 mask)

-- the rule's truth on top differs from that on bottom
unfoldable pub kept : ℕ → ℕ → Bool
kept rule mask = differ (top_of rule mask) (bottom_of rule mask)

-- the same with its direction: 1 where only the top is inside, -1 where only the bottom is
unfoldable pub sign : ℕ → ℕ → ℤ
sign rule mask = ind (top_of rule mask) -ℤ ind (bottom_of rule mask)

-- the number of each rule
abbrev pub number_of : OverlayRule → ℕ
number_of Subject = 0
number_of Clip = 1
number_of Intersect = 2
number_of Union = 3
number_of Difference = 4
number_of InverseDifference = 5
number_of Xor = 6

-- the rule of this number; a number over 6 has none
abbrev pub RuleOf : ℕ → Result OverlayRule BadRule → Type 0
RuleOf number r = MatchResult r (λ rule. number_of rule ≡ number) (λ e. 6 < number)
