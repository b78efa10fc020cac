-- The sweep as a part of its own, in document 01's numbers: those of refusals 1 to 11 that its lists can meet, in order ("Input and answer", "How tight the
-- promises are"), and what every lent list then holds.
use Rattle.std.specs.Prelude.{◌≡◌, refl, cond, [], ◌∷◌, true, false, ℕ, eqb, get_or, Result, Ok, Err, ⊤, is_err, IsOkUnless}
use Rattle.std.proofs.Common.{sym, ap, ◌∙◌, arith}
use Rattle.build.specs.declared.sweep.FillError.{FillError}
use Rattle.build.specs.declared.sweep.FillError.TheVariants.{Short, BadRule, OffGrid, NoLength, BadCount, ScanFull}
use Rattle.build.specs.Fill.{answer_of}

-- ---- the number settles the case

case_of : ℕ → Result ⊤ FillError
case_of k = cond (eqb k 11) (Err ScanFull) (get_or (Ok tt ∷ Err Short ∷ Err BadRule ∷ Err OffGrid ∷ Err NoLength ∷ Err BadCount ∷ []) k (Ok tt))

case_is : (r : Result ⊤ FillError) → case_of (answer_of r) ≡ r
unfolding case_of
case_is (Ok done) = refl
case_is (Err Short) = refl
case_is (Err BadRule) = refl
case_is (Err OffGrid) = refl
case_is (Err NoLength) = refl
case_is (Err BadCount) = refl
case_is (Err ScanFull) = refl

pub one_case : (r s : Result ⊤ FillError) → answer_of r ≡ answer_of s → r ≡ s
one_case r s e = sym (case_is r) ∙ ap case_of e ∙ case_is s

-- ---- the number by the case

pub full_number : (r : Result ⊤ FillError) → IsOkUnless r ScanFull → is_err r ≡ true → answer_of r ≡ 11
full_number (Ok done) u e = let z : ◌≡◌ {A = ℕ} 0 1 = cc in absurd (omega arith)
full_number (Err x) u e = ap (λ (y : FillError). answer_of (Err y)) u

pub done_number : (r : Result ⊤ FillError) → is_err r ≡ false → answer_of r ≡ 0
done_number (Ok done) e = refl
done_number (Err x) e = let z : ◌≡◌ {A = ℕ} 0 1 = cc in absurd (omega arith)
