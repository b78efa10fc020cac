-- Document 01, "Keeping", for a caller who may give any numbers: what `keep` says, in the paper's numbers.
use Rattle.std.specs.Prelude.{◌≡◌, refl, cond, ℕ, ◌+◌, ◌%◌, ltb, eqb, Result, Ok, Err}
use Rattle.std.proofs.Common.{sym, ap, ◌∙◌, arith}
use Rattle.decisions.specs.declared.Decision.{Decision}
use Rattle.decisions.specs.declared.Decision.TheVariants.{Keep, Drop}
use Rattle.rules.specs.declared.BadRule.{BadRule}
use Rattle.rules.specs.Keep.{flag, kept}

-- the number of the table, and 1 if the edge is kept
pub record Said : Type 0 where
  pub answer : ℕ
  pub keep : ℕ

abbrev pub said : ℕ → ℕ → Said
said a k = record { answer = a; keep = k }

-- number and value of each case
abbrev pub keep_says : Result Decision BadRule → Said
keep_says (Ok Keep) = said 0 1
keep_says (Ok Drop) = said 0 0
keep_says (Err bad) = said 2 0

-- an overlay rule over 6 is refused with 2; else the mask decides, which is the low four bits of the byte
unfoldable pub keep_said : ℕ → ℕ → Said
keep_said rule byte = cond (ltb 6 rule) (said 2 0) (said 0 (flag (kept rule (byte % 16))))

-- what is said settles the decision
case_of : Said → Result Decision BadRule
case_of s = cond (eqb s.answer 2) (Err record {}) (Ok (cond (eqb s.keep 1) Keep Drop))

case_is : (r : Result Decision BadRule) → case_of (keep_says r) ≡ r
unfolding case_of
case_is (Ok Keep) = refl
case_is (Ok Drop) = refl
case_is (Err bad) = refl

pub one_case : (r s : Result Decision BadRule) → keep_says r ≡ keep_says s → r ≡ s
one_case r s e = sym (case_is r) ∙ ap case_of e ∙ case_is s

-- the byte of a kept edge decides as its mask does
pub marked : (rule mask : ℕ) → keep_said rule (mask + 16) ≡ keep_said rule mask
unfolding keep_said
marked rule mask = let low : (mask + 16) % 16 ≡ mask % 16 = omega arith in rw low
