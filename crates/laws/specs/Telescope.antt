-- Over a finite family with a strict total order, the rises of any g from the sum of what is lesser to that sum with the
-- own count add up to the rise over all. A sorted list telescopes from its head: the head has nothing below it, and to
-- all others it is one more count below. Sorting keeps every sum, and so both the family's sum and each sum of lessers.
use Rattle.std.specs.Prelude.{◌≡◌, Bool, ◌⊎◌, ℤ, ◌-ℤ◌}
use mathlib.Core.List.{List, [], ◌∷◌}
use Rattle.std.proofs.Math.Bool.{true, false}
use Rattle.std.proofs.Math.IntN.{◌+ℤ◌}
use Rattle.whole.specs.Ring.{reads}
use Rattle.whole.proofs.RingLaws.{ring}
use Rattle.whole.specs.Sum.{Over}

-- counts of several areas, one for each i: what stands below is a number for each. The rise of g at the counts u over P
unfoldable pub rise : {I : Type 0} → ((I → ℤ) → ℤ) → (I → ℤ) → (I → ℤ) → ℤ
rise g P u = g (λ i. P i +ℤ u i) -ℤ g P

-- ---- a strict order, on what Q holds of
pub record Strict {A : Type 0} (lt : A → A → Bool) (Q : A → Type 0) : Type 0 where
  pub irreflexive : (x : A) → Q x → lt x x ≡ false
  pub transitive : (x y z : A) → Q x → Q y → Q z → lt x y ≡ true → lt y z ≡ true → lt x z ≡ true

abbrev pub Told : {A : Type 0} → (A → A → Bool) → A → A → Type 0
Told lt x y = (lt x y ≡ true) ⊎ (lt y x ≡ true)

-- ---- the sum of those below r
unfoldable pub Lower : {A : Type 0} → (A → A → Bool) → (A → ℤ) → List A → A → ℤ
Lower lt c L r = Over c (λ s. lt s r) L

pub in_two : (a b c : ℤ) → (a -ℤ b) +ℤ (c -ℤ a) ≡ c -ℤ b
in_two a b c = ring (a ∷ b ∷ c ∷ []) (search reads depth 20 fits 5000) tt
