-- One law for each outcome of the tests on the first of the marks that are left.
use mathlib.Core.Path.{◌≡◌, ap, ◌∙◌}
use mathlib.Core.Bool.{true, false}
use mathlib.Core.List.{List, [], ◌∷◌}
use Prim.Native.Nat.{ℕ}
use Rattle.split.specs.declared.answer.Mark.{Mark}
use Rattle.apply.specs.Answer.{names, leads, in_order}

module _ (n : ℕ) {L : List Mark} {m : Mark} {rest : List Mark} (e : L ≡ m ∷ rest) where
  pub not_named : names n m ≡ false → in_order n L ≡ false
  unfolding in_order
  not_named h = ap (in_order n) e ∙ rw h

  pub not_led : names n m ≡ true → leads m rest ≡ false → in_order n L ≡ false
  unfolding in_order
  not_led h k = ap (in_order n) e ∙ rw (h, k)

  pub ordered-later : names n m ≡ true → leads m rest ≡ true → in_order n L ≡ in_order n rest
  unfolding in_order
  ordered-later h k = ap (in_order n) e ∙ rw (h, k)

pub none_unordered : (n : ℕ) {L : List Mark} → L ≡ [] → in_order n L ≡ true
unfolding in_order
none_unordered n e = ap (in_order n) e
