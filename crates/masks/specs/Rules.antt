-- The two rules of an overlay by their numbers ("Input and answer").
use Rattle.std.specs.Prelude.{ℕ}
use Rattle.fills.specs.Inside.{number_of as number_of_fill}
use Rattle.rules.specs.Keep.{number_of as number_of_overlay}
use Rattle.masks.specs.declared.Rules.{Rules}

abbrev pub fill_number : Rules → ℕ
fill_number r = number_of_fill r.fill

abbrev pub overlay_number : Rules → ℕ
overlay_number r = number_of_overlay r.overlay
