-- The promise of `overlay` settles its answer and its lists.
use Rattle.std.specs.Prelude.{◌≡◌, List, ℕ, ℤ}
use Rattle.std.proofs.Common.{sym, ap, ◌∙◌}
use Rattle.overlay.specs.Numbers.{Answer}
use Rattle.overlay.proofs.NumbersLaws.{told_injective}
use Rattle.overlay.specs.Outcome.{Lent, outcome}
use Rattle.checks.specs.declared.Settings.{Settings}
use Rattle.ending.specs.Lent.{ended}

-- THE THEOREM ("How tight the promises are"): a second answer, with its lists, that fits the promise of `overlay` is the first
pub only-outcome : (input : List ℤ) (s : Settings) (l : Lent) (a b : Answer) (w v m n c d : List ℤ) (k j : List ℕ)
    → ended a w m c k ≡ outcome input s l → ended b v n d j ≡ outcome input s l → (a ≡ b) × (w ≡ v) × (m ≡ n) × (c ≡ d) × (k ≡ j)
only-outcome input s l a b w v m n c d k j e f =
    let h = e ∙ sym f in
    (told_injective a b (ap (λ o. o.answer) h), ap (λ o. o.lists.work) h, ap (λ o. o.lists.marks) h, ap (λ o. o.lists.scan) h, ap (λ o. o.lists.masks) h)
