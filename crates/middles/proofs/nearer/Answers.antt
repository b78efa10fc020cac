-- `middles::nearer` meets its contract: the lesser distance is the minimum, and its end the one that the definition takes.
use mathlib.Core.Path.{◌≡◌, ap}
use Prim.Native.Nat.{ℕ, ◌<◌, ◌≤◌}
use native.Mathlib.Omega.{arith}
use borrow.Author.Tests.{lt-ltb, le-ltb}
use Rattle.geom.specs.declared.Point.{Point}
use Rattle.geom.specs.declared.Segment.{Segment}
use Rattle.middles.specs.declared.End.{End}
use Rattle.middles.specs.Point.{far, nearer, reach}
use Rattle.middles.specs.Middle.{end_of}
use Rattle.middles.proofs.nearer.Goals as goal

abbrev end : Point → ℕ → End
end p r = record { point = p; far = r }

module _ {x y : ℕ} (v : Segment) (p : Point) (ex : x ≡ far v.a p) (ey : y ≡ far v.b p) where
  at_a : x < y → end v.a x ≡ end_of v p
  unfolding nearer reach
  at_a h = rw (← ex, ← ey, lt-ltb x y h) (ap (end v.a) (omega arith))

  at_b : y ≤ x → end v.b y ≡ end_of v p
  unfolding nearer reach
  at_b h = rw (← ex, ← ey, le-ltb x y h) (ap (end v.b) (omega arith))

pub returns-then-a-b : goal.returns-then-a-b
returns-then-a-b c =
    let s = c.args in
    at_a s.v s.p c.far-a.ensures c.far-b.ensures c.if-a-b.true

pub returns-else-a-b : goal.returns-else-a-b
returns-else-a-b c =
    let s = c.args in
    at_b s.v s.p c.far-a.ensures c.far-b.ensures c.if-a-b.false
