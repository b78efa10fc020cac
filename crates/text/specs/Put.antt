-- Text put into a list of bytes from a place on, as far as there is room: the place behind it, and the list.
use Rattle.std.specs.Prelude.{◌≡◌, List, ℕ, ◌+◌, length}
use Rattle.std.proofs.lemmas.List.Edits.{sets}

pub record Put (out : List ℕ) (at : ℕ) (text : List ℕ) (r : ℕ) (then : List ℕ) : Type 0 where
  pub place : r ≡ at + length text
  pub list : then ≡ sets out at text
