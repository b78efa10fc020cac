-- `middles::far` meets its contract: two squares of less than 2^62 each.
use mathlib.Core.Path.{◌≡◌, ap, ap₂, ◌∙◌}
use Prim.Native.Nat.{ℕ, ◌+◌, ◌*◌, ◌≤◌}
use native.Mathlib.Omega.{arith}
use lib.IntN.{nat_abs, ◌-ℤ◌}
use mir.Facts.{to_z-of_z}
use mir.Syntax.{w64}
use borrow.Author.Rules.{sfits_of}
use Rattle.geom.proofs.Bounds.{gap_near}
use Rattle.middles.specs.Point.{far}
use Rattle.middles.specs.Sizes.{square_near}
use Rattle.middles.proofs.far.Goals as goal
use Rattle.middles.proofs.far.Goals.{After-unsigned_abs-h}

w-is : (c : After-unsigned_abs-h) → let a = c.args in c.unsigned_abs-w.result ≡ nat_abs (a.p.x.0 -ℤ a.q.x.0)
w-is c = c.unsigned_abs-w.ensures.value ∙ ap nat_abs (to_z-of_z {w = w64} (sfits_of c.gap.type_inv) ∙ c.gap.ensures)

h-is : (c : After-unsigned_abs-h) → let a = c.args in c.unsigned_abs-h.result ≡ nat_abs (a.p.y.0 -ℤ a.q.y.0)
h-is c = c.unsigned_abs-h.ensures.value ∙ ap nat_abs (to_z-of_z {w = w64} (sfits_of c.gap-2.type_inv) ∙ c.gap-2.ensures)

w-square : (c : After-unsigned_abs-h) → let r = c.unsigned_abs-w.result in r * r ≤ 4611686014132420609
w-square c = square_near c.unsigned_abs-w.result (omega (arith, w-is c, gap_near c.requires.grid_point.x c.requires.grid_point_2.x))

h-square : (c : After-unsigned_abs-h) → let r = c.unsigned_abs-h.result in r * r ≤ 4611686014132420609
h-square c = square_near c.unsigned_abs-h.result (omega (arith, h-is c, gap_near c.requires.grid_point.y c.requires.grid_point_2.y))

pub overflow_add-result : goal.overflow_add-result
overflow_add-result c = let k = (goal.at.overflow_add-result c).After-unsigned_abs-h in record { fits = omega (arith, w-square k, h-square k) }

pub returns : goal.returns
unfolding far
returns c = let k = (goal.at.returns c).After-unsigned_abs-h in ap₂ (λ (m n : ℕ). m * m + n * n) (w-is k) (h-is k)
