-- What follows from the rules' truths alone: the numbers that document 01 gives, and the algebra of signs, edge by edge (demand 3).
use Rattle.std.specs.Prelude.{◌≡◌, ℕ, ℤ, pos, ◌+ℤ◌, ◌-ℤ◌, ◌*ℤ◌}

-- ---- the algebra, on one side and then of the signs

pub record Algebra (v : ℕ → ℤ) : Type 0 where
  pub union : v 3 +ℤ v 2 ≡ v 0 +ℤ v 1
  pub difference : v 4 ≡ v 0 -ℤ v 2
  pub inverse : v 5 ≡ v 1 -ℤ v 2
  pub xor : v 6 ≡ (v 0 +ℤ v 1) -ℤ pos 2 *ℤ v 2
