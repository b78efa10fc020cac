-- The common point of two segments where neither the signs nor the order of points keep them apart.
-- e's ends strictly on both sides of the line of f, and f's ends not on one side of the line of e: the crossing, by its weights on both, strictly inside e.
-- Strictly on both sides in both: it is strictly inside both (a middle crossing). With one zero: that end of f lies strictly inside e (touching).
-- On one line: an end of one lies strictly inside the other, unless one starts where or after the other ends, or their ends are the same.
use Rattle.std.specs.Prelude.{◌≡◌, pos}
use Rattle.geom.specs.declared.Point.{Point}
use Rattle.geom.specs.declared.Segment.{Segment}
use Rattle.geom.specs.Plane.{Before}
use Rattle.geom.specs.Off.{Off, On}
use Rattle.plane.specs.Apart.{o₁, o₂}
use Rattle.plane.specs.Mean.{Inner}

-- ---- a middle crossing: a common point, strictly inside both where they are turned
pub record Crossed (e f : Segment) : Type 0 where
  pub P : Off
  pub on_e : On e P
  pub on_f : On f P
  pub inside_e : Before e.a e.b → Inner e P
  pub inside_f : Before f.a f.b → Inner f P

-- ---- a point of the grid strictly between the ends, by the order of points
pub record Inside (e : Segment) (p : Point) : Type 0 where
  pub after : Before e.a p
  pub ahead : Before p e.b

-- an end of one lies strictly inside the other
pub data Touch (e f : Segment) : Type 0 where
  a_of_f : o₁ e f ≡ pos 0 → Inside e f.a → Touch e f
  b_of_f : o₂ e f ≡ pos 0 → Inside e f.b → Touch e f
  a_of_e : o₁ f e ≡ pos 0 → Inside f e.a → Touch e f
  b_of_e : o₂ f e ≡ pos 0 → Inside f e.b → Touch e f

-- ---- all on one line
abbrev pub Different : Segment → Segment → Type 0
Different e f = ¬ ((e.a ≡ f.a) × (e.b ≡ f.b))
