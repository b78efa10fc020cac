-- What follows from the rules' truths alone: the numbers that document 01 gives, and the algebra of signs, edge by edge (demand 3).
use Rattle.std.specs.Prelude.{◌≡◌, refl, Bool, true, false, cond, [], ◌∷◌, ℕ, zero, suc, ◌+◌, ℤ, pos, ◌+ℤ◌, ◌-ℤ◌}
use Rattle.std.proofs.Common.{sym, ap₂, ◌∙◌}
use Rattle.whole.specs.Ring.{reads}
use Rattle.whole.proofs.RingLaws.{ring}
use Rattle.whole.specs.Sum.{ind}
use Rattle.rules.specs.Keep.{differ, truth, bit, top_of, bottom_of, kept, sign}
use Rattle.rules.specs.KeepLaws.{Algebra}

-- ---- the worked cases

-- how many of the masks below n a rule keeps, and how many of the pairs with a rule below r
pub count : ℕ → ℕ → ℕ
count rule zero = 0
count rule (suc n) = cond (kept rule n) 1 0 + count rule n

pub pairs : ℕ → ℕ
pairs zero = 0
pairs (suc r) = count r 16 + pairs r

pub forty_eight : pairs 7 ≡ 48
unfolding count pairs kept
forty_eight = refl

pub eleven : (kept 2 11 ≡ true) × (kept 3 11 ≡ false)
unfolding kept
eleven = (refl, refl)

same : (b : Bool) → differ b b ≡ false
same true = refl
same false = refl

pub fifteen : (rule : ℕ) → kept rule 15 ≡ false
unfolding kept
fifteen rule = same (truth rule true true)

-- ---- kept exactly if the sign is not zero

zero_same : (t b : Bool) → ind t -ℤ ind b ≡ pos 0 → differ t b ≡ false
zero_same true true e = refl
zero_same true false e = cc
zero_same false true e = cc
zero_same false false e = refl

same-zero : (t b : Bool) → differ t b ≡ false → ind t -ℤ ind b ≡ pos 0
same-zero true true e = refl
same-zero true false e = cc
same-zero false true e = cc
same-zero false false e = refl

pub dropped_by_sign : (rule mask : ℕ) → sign rule mask ≡ pos 0 → kept rule mask ≡ false
unfolding kept sign
dropped_by_sign rule mask = zero_same (top_of rule mask) (bottom_of rule mask)

pub sign_of_dropped : (rule mask : ℕ) → kept rule mask ≡ false → sign rule mask ≡ pos 0
unfolding kept sign
sign_of_dropped rule mask = same-zero (top_of rule mask) (bottom_of rule mask)

pub on_a_side : (s c : Bool) → Algebra (λ rule. ind (truth rule s c))
on_a_side true true = record { union = refl; difference = refl; inverse = refl; xor = refl }
on_a_side true false = record { union = refl; difference = refl; inverse = refl; xor = refl }
on_a_side false true = record { union = refl; difference = refl; inverse = refl; xor = refl }
on_a_side false false = record { union = refl; difference = refl; inverse = refl; xor = refl }

-- the algebra is linear, so it passes to differences
minus : (v w : ℕ → ℤ) → Algebra v → Algebra w → Algebra (λ rule. v rule -ℤ w rule)
minus v w a b =
    record {
      union = pairwise (v 3) (w 3) (v 2) (w 2) ∙ ap₂ ◌-ℤ◌ a.union b.union ∙ sym (pairwise (v 0) (w 0) (v 1) (w 1));
      difference = rw (a.difference, b.difference) (crosswise (v 0) (w 0) (v 2) (w 2));
      inverse = rw (a.inverse, b.inverse) (crosswise (v 1) (w 1) (v 2) (w 2));
      xor = rw (a.xor, b.xor) (ring (v 0 ∷ w 0 ∷ v 1 ∷ w 1 ∷ v 2 ∷ w 2 ∷ []) (search reads depth 40 fits 50000) tt);
    }
  where
    pairwise : (p q r s : ℤ) → (p -ℤ q) +ℤ (r -ℤ s) ≡ (p +ℤ r) -ℤ (q +ℤ s)
    pairwise p q r s = ring (p ∷ q ∷ r ∷ s ∷ []) (search reads depth 20 fits 5000) tt

    crosswise : (p q r s : ℤ) → (p -ℤ r) -ℤ (q -ℤ s) ≡ (p -ℤ q) -ℤ (r -ℤ s)
    crosswise p q r s = ring (p ∷ q ∷ r ∷ s ∷ []) (search reads depth 20 fits 5000) tt

pub of_signs : (mask : ℕ) → Algebra (λ rule. sign rule mask)
unfolding sign
of_signs mask =
    minus _ _ (on_a_side (bit 1 mask) (bit 4 mask)) (on_a_side (bit 2 mask) (bit 8 mask))
