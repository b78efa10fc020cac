-- The number that the definitions give an orientation (`side_of`): 0 right, 1 on the line, 2 left.
use Rattle.std.specs.Prelude.{ℕ}
use Rattle.turns.specs.declared.Orientation.{Orientation}
use Rattle.turns.specs.declared.Orientation.TheVariants.{Right, Straight, Left}

abbrev pub number_of : Orientation → ℕ
number_of Right = 0
number_of Straight = 1
number_of Left = 2
