-- Document 01's words for points and segments: the grid ("Input and answer", refusal 3), the order of points and what it is to turn a
-- segment ("The run"), upright ("Masks"), and the turn of three points, whose sign is the orientation of "Crossing".
use Rattle.std.specs.Prelude.{◌≡◌, Bool, true, false, cond, ℕ, ◌<◌, ◌^◌, ℤ, pos, neg_ℤ, ◌-ℤ◌, ◌*ℤ◌, ◌<ℤ◌}
use Rattle.std.specs.Int.Signed.{mag, lt_z}
use Rattle.std.specs.Int.{w32}
use Rattle.std.proofs.Common.{SFits}
pub use Rattle.whole.specs.Test.{eq_z as sameZ}
use Rattle.geom.specs.declared.Count.{Count}
use Rattle.geom.specs.declared.Point.{Point}
use Rattle.geom.specs.declared.Segment.{Segment}

-- the point with these coordinates
abbrev pub point : ℤ → ℤ → Point
point x y = record { x = record { 0 = x }; y = record { 0 = y } }

-- the segment with these ends and counts
abbrev pub segment : Point → Point → ℤ → ℤ → Segment
segment p q s c = record { a = p; b = q; subject = record { 0 = s }; clip = record { 0 = c } }

-- ---- the two counts: what is said of subject and clip is said once, over the side

pub data Side : Type 0 where
  subject clip : Side

abbrev pub count : Side → Segment → ℤ
count subject v = v.subject.0
count clip v = v.clip.0

-- ---- the grid: -2^30 ≤ z < 2^30

pub record OnGrid (z : ℤ) : Type 0 where
  pub near : mag z < 2 ^ 30

pub record GridPoint (p : Point) : Type 0 where
  pub x : OnGrid p.x.0
  pub y : OnGrid p.y.0

pub record GridSegment (v : Segment) : Type 0 where
  pub a : GridPoint v.a
  pub b : GridPoint v.b

-- the same as tests
unfoldable pub on_grid : ℤ → Bool
on_grid z = cond (lt_z z (neg_ℤ (pos (2 ^ 30)))) false (lt_z z (pos (2 ^ 30)))

unfoldable pub grid_point : Point → Bool
grid_point p = cond (on_grid p.x.0) (on_grid p.y.0) false

unfoldable pub grid_segment : Segment → Bool
grid_segment v = cond (grid_point v.a) (grid_point v.b) false

-- ---- the order of points: x first, then y

pub data Before (p q : Point) : Type 0 where
  by_x : p.x.0 <ℤ q.x.0 → Before p q
  by_y : p.x.0 ≡ q.x.0 → p.y.0 <ℤ q.y.0 → Before p q

unfoldable pub before : Point → Point → Bool
before p q = cond (lt_z p.x.0 q.x.0) true (cond (lt_z q.x.0 p.x.0) false (lt_z p.y.0 q.y.0))

-- q lies strictly between p and r
unfoldable pub between : Point → Point → Point → Bool
between p q r = cond (before p q) (before q r) false

unfoldable pub same_point : Point → Point → Bool
same_point p q = cond (sameZ p.x.0 q.x.0) (sameZ p.y.0 q.y.0) false

-- ---- segments

unfoldable pub upright : Segment → Bool
upright v = sameZ v.a.x.0 v.b.x.0

-- a count that can be negated: not -2^31 (refusal 5)
pub record Countable (c : Count) : Type 0 where
  pub fits : SFits w32 (neg_ℤ c.0)

abbrev pub neg_count : Count → Count
neg_count c = record { 0 = neg_ℤ c.0 }

-- ends exchanged and both counts negated
abbrev pub turned : Segment → Segment
turned v = record { a = v.b; b = v.a; subject = neg_count v.subject; clip = neg_count v.clip }

-- ---- the turn of three points: over 0 where q lies left of the way from o to p

unfoldable pub turn : Point → Point → Point → ℤ
turn o p q = ((p.x.0 -ℤ o.x.0) *ℤ (q.y.0 -ℤ o.y.0)) -ℤ ((p.y.0 -ℤ o.y.0) *ℤ (q.x.0 -ℤ o.x.0))

-- a point against the line of a segment
abbrev pub against : Segment → Point → ℤ
against v q = turn v.a v.b q

-- a sign as a number: 0 below zero, 1 zero, 2 above
abbrev pub sign_of : ℤ → ℕ
sign_of z = cond (lt_z z (pos 0)) 0 (cond (lt_z (pos 0) z) 2 1)

unfoldable pub side_of : Point → Point → Point → ℕ
side_of o p q = sign_of (turn o p q)
