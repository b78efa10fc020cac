-- What comes of any two segments, by how they meet, and for every radius: all on one line, overlaid; kept apart by the signs, nothing; otherwise a point that is
-- an end of one or the middle point, and no end of a segment that it marks ("Crossing"). With at most one zero, no end of the segment that is marked lies on
-- the other's line; in the middle no end does.
use Rattle.std.specs.Prelude.{Bool, cond, Option, None}
use Rattle.std.proofs.Math.Bool.{false}
use Rattle.geom.specs.declared.Point.{Point}
use Rattle.geom.specs.declared.Segment.{Segment}
use Rattle.plane.specs.Meeting.{Meeting, collinear, none, touching, crossing as through}
use Rattle.plane.specs.NoEnd.{NoEnd}
use Rattle.cross.specs.declared.answer.Cross.{Cross}
use Rattle.cross.specs.declared.answer.Kind.TheVariants.{Pure, TargetEnd, OtherEnd, Overlay}
use Rattle.cross.specs.Cross.{found, cross_point, origin}
use Rattle.cross.specs.Middle.{Middle}

-- ---- where a mark can be: at an end of either, or at the middle point

pub data Place (t o : Segment) : Point → Type 0 where
  t_a : Place t o t.a
  t_b : Place t o t.b
  o_a : Place t o o.a
  o_b : Place t o o.b
  between : Middle t o → Place t o (cross_point t o)

-- ---- a crossing that marks: Pure marks both, an end the other segment

pub data Marked (t o : Segment) : Option Cross → Type 0 where
  both : {p : Point} {r : Bool} → Place t o p → NoEnd t p → NoEnd o p → Marked t o (found p Pure r)
  on_other : {p : Point} {r : Bool} → Place t o p → NoEnd o p → Marked t o (found p TargetEnd r)
  on_target : {p : Point} {r : Bool} → Place t o p → NoEnd t p → Marked t o (found p OtherEnd r)

pub data Outcome (t o : Segment) : Meeting → Option Cross → Type 0 where
  overlaid : Outcome t o collinear (found origin Overlay false)
  nothing : Outcome t o none None
  marked : {c : Option Cross} (one : Bool) → Marked t o c → Outcome t o (cond one touching through) c
