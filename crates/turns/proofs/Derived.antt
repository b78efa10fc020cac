-- What the derived `==` of orientations says, in the numbers of the definitions.
use Rattle.std.specs.Prelude.{◌≡◌, refl, eqb}
use Rattle.turns.specs.declared.Orientation.{Orientation}
use Rattle.turns.specs.declared.Orientation.TheVariants.{Right, Straight, Left}
use Rattle.turns.specs.contracts.OrientationPartialEq.TheImpl.{eq-value}
use Rattle.turns.specs.Orientation.{number_of}

pub eq_is_same_number : (a b : Orientation) → eq-value.it a b ≡ eqb (number_of a) (number_of b)
eq_is_same_number Right Right = refl
eq_is_same_number Right Straight = refl
eq_is_same_number Right Left = refl
eq_is_same_number Straight Right = refl
eq_is_same_number Straight Straight = refl
eq_is_same_number Straight Left = refl
eq_is_same_number Left Right = refl
eq_is_same_number Left Straight = refl
eq_is_same_number Left Left = refl
