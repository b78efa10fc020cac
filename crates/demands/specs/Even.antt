-- Balanced (demand 3): what starts at a point counts as much as what ends there, for either side, in every list that the run makes of a closed one. Turning
-- forward, sorting, merging and splitting each keep the boundary of a list (crate laws).
use Rattle.std.specs.Prelude.{List, map}
use Rattle.whole.specs.Sum.{All}
use Rattle.geom.specs.declared.Segment.{Segment}
use Rattle.geom.specs.Plane.{Side, count}
use Rattle.segm.specs.Forward.{forward}
use Rattle.segm.specs.Balance.{Balanced}
use Rattle.demands.specs.Chain.{cut, next}

-- on both sides
abbrev pub Even : List Segment → Type 0
Even L = (d : Side) → Balanced (count d) L

-- every list of a run of L: turned, before each look, after each split, after the merge that follows, and at the end
pub record AllEven (L : List Segment) (Ls : List (List Segment)) (K : List Segment) : Type 0 where
  pub turned : Even (map forward L)
  pub looked : All Even Ls
  pub split : All (λ M. Even (cut M)) Ls
  pub merged : All (λ M. Even (next M)) Ls
  pub final : Even K
