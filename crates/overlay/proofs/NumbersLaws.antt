-- Document 01's number, m and looks of each answer ("Input and answer"): every refusal returns zero segments and zero looks.
use Rattle.std.specs.Prelude.{◌≡◌, ◌≢◌, refl, Ok, Err, [], ◌∷◌, get_or}
use Rattle.std.proofs.Common.{sym, ap, ◌∙◌}
use Rattle.overlay.specs.declared.answer.Refusal.{Refusal}
use Rattle.overlay.specs.declared.answer.Refusal.TheVariants.{Short, BadSettings, OffGrid, NoLength, BadCount, Open, MarksFull, WorkFull, TooBig, Unsettled, ScanFull}
use Rattle.overlay.specs.Numbers.{Answer, Told, refusal, number_of, told}

-- the answer of these numbers, so no two answers have the same
abbrev answer_of : Told → Answer
answer_of t =
    get_or (Ok (record { segments = t.segments; looks = t.looks }) ∷ Err Short ∷ Err BadSettings ∷ Err OffGrid ∷ Err NoLength ∷ Err BadCount ∷ Err Open ∷ Err MarksFull ∷ Err WorkFull ∷ Err TooBig ∷ Err Unsettled ∷ Err ScanFull ∷ []) t.number (Err Short)

answer_of_lem : (a : Answer) → answer_of (told a) ≡ a
answer_of_lem (Ok s) = refl
answer_of_lem (Err Short) = refl
answer_of_lem (Err BadSettings) = refl
answer_of_lem (Err OffGrid) = refl
answer_of_lem (Err NoLength) = refl
answer_of_lem (Err BadCount) = refl
answer_of_lem (Err Open) = refl
answer_of_lem (Err MarksFull) = refl
answer_of_lem (Err WorkFull) = refl
answer_of_lem (Err TooBig) = refl
answer_of_lem (Err Unsettled) = refl
answer_of_lem (Err ScanFull) = refl

pub told_injective : (a b : Answer) → told a ≡ told b → a ≡ b
told_injective a b e = sym (answer_of_lem a) ∙ ap answer_of e ∙ answer_of_lem b

pub not_zero : (r : Refusal) → number_of r ≢ 0
not_zero r e = let same : ◌≡◌ {A = Answer} (Err r) (Ok (record { segments = 0; looks = 0 })) = told_injective (Err r) (Ok (record { segments = 0; looks = 0 })) (ap refusal e) in cc
