-- The three demands, of every run that answers 0. `outcome input s l` is what document 01 says that a run returns and leaves in the lent lists l; m and looks are the
-- numbers that come with answer 0, as they do in document 01's printed run (overlay/specs/Cases.antt); an edge is one of the first m segments of the work list. Each
-- theorem names its place in document 01.
use Rattle.std.specs.Prelude.{◌≡◌, List, ℕ, ℤ, get_or, ◌<ℤ◌}
use Rattle.whole.specs.Order.{zz}
use Rattle.whole.specs.Kind.{row_at}
use Rattle.geom.specs.declared.Point.{Point}
use Rattle.geom.specs.declared.Segment.{Segment}
use Rattle.geom.specs.Plane.{Before, by_x, by_y}
use Rattle.geom.specs.Rows.{segments}
use Rattle.checks.specs.declared.Settings.{Settings}
use Rattle.overlay.specs.Numbers.{answer0}
use Rattle.overlay.specs.Outcome.{Lent, Outcome, outcome}

-- edge number k and its byte
abbrev pub edge : Outcome → ℕ → Segment
edge o k = row_at segments o.lists.work k

abbrev pub byte : Outcome → ℕ → ℕ
byte o k = get_or o.lists.masks k 0

-- an upright edge that runs forward rises
pub rises : {p q : Point} → Before p q → p.x.0 ≡ q.x.0 → p.y.0 <ℤ q.y.0
rises (by_x h) e = absurd (omega zz)
rises (by_y e h) f = h

module _ (input : List ℤ) (s : Settings) (l : Lent) (m looks : ℕ) (zero : (outcome input s l).answer ≡ answer0 m looks) where
  abbrev o : Outcome
  o = outcome input s l
