-- At an end p of an edge e nothing passes through: an edge t apart from e that has p on it has p for an end. For p
-- strictly within t is a mean of t's ends with two positive weights, so the turns of t's ends against e have a weighted sum
-- that is 0 (`cut_a`, `cut_b`; for an upright t the same in y): no strict side, and not exactly one zero.
-- So what lies below e at p is what passes strictly under p, and of the edges that share the end p those below e by slope.
use Rattle.std.specs.Prelude.{Bool}
use Rattle.std.proofs.Math.IntN.{pos}
use Rattle.std.specs.Int.Signed.{lt_z}
use Rattle.geom.specs.declared.Point.{Point}
use Rattle.geom.specs.declared.Segment.{Segment}
use Rattle.geom.specs.Plane.{turn, same_point}

-- ---- the edges that start with e, below it
unfoldable pub starts : Point → Segment → Bool
starts p t = same_point p t.a

unfoldable pub start-lt : Point → Segment → Segment → Bool
start-lt p t e = lt_z (pos 0) (turn p t.b e.b)

-- ---- the edges that end with e, below it: straight up from below is the first of these
unfoldable pub ends : Point → Segment → Bool
ends p t = same_point p t.b

unfoldable pub end_lt : Point → Segment → Segment → Bool
end_lt p t e = lt_z (pos 0) (turn p e.a t.a)
