-- A side is on the line where its number is odd.
use Rattle.std.specs.Prelude.{◌≡◌, refl, cond, eqb}
use Rattle.turns.specs.declared.Orientation.{Orientation}
use Rattle.turns.specs.declared.Orientation.TheVariants.{Right, Straight, Left}
use Rattle.turns.specs.Orientation.{number_of}
use Rattle.cross.specs.Cross.{zero}

pub zero_is : (s : Orientation) → cond (eqb (number_of s) 1) 1 0 ≡ zero (number_of s)
zero_is Right = refl
zero_is Straight = refl
zero_is Left = refl
