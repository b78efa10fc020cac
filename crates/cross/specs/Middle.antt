-- A middle crossing ("Crossing", "Middle point"), the sides that say that it is one, and the nearest of the four ends.
use Rattle.std.specs.Prelude.{◌≡◌, true, cond, ℕ, ◌+◌, leb, Option}
use Rattle.geom.specs.declared.Point.{Point}
use Rattle.geom.specs.declared.Segment.{Segment}
use Rattle.geom.specs.Plane.{side_of}
pub use Rattle.middles.specs.Middle.{Middle}
use Rattle.cross.specs.declared.answer.Kind.TheVariants.{TargetEnd, OtherEnd}
use Rattle.cross.specs.declared.answer.Cross.{Cross}
use Rattle.cross.specs.Cross.{found, zero, nearer, reach}

-- the four sides: other's ends against target's line, target's ends against other's
pub record Sides (t o : Segment) (s1 s2 s3 s4 : ℕ) : Type 0 where
  pub first : s1 ≡ side_of t.a t.b o.a
  pub second : s2 ≡ side_of t.a t.b o.b
  pub third : s3 ≡ side_of o.a o.b t.a
  pub fourth : s4 ≡ side_of o.a o.b t.b

-- how many of them are on a line
abbrev pub zeros_of : ℕ → ℕ → ℕ → ℕ → ℕ
zeros_of s1 s2 s3 s4 = zero s1 + zero s2 + zero s3 + zero s4

-- the nearest of the four ends, target's on a tie
abbrev pub nearest_end : Segment → Segment → Point → Option Cross
nearest_end t o p = cond (leb (reach t p) (reach o p)) (found (nearer t p) TargetEnd true) (found (nearer o p) OtherEnd true)
