-- A mean of a segment's ends lies on the segment: P = v a + u b over u + v. So a common point is shown by its weights on both segments, with no box at hand.
-- The crossing of e with the line of f has the turns themselves for weights: o₂ f e · e.a - o₁ f e · e.b = o₁ e f · f.b - o₂ e f · f.a, over o₂ f e - o₁ f e = o₁ e f - o₂ e f.
use Rattle.std.specs.Prelude.{ℤ, pos, ◌+ℤ◌, ◌*ℤ◌, ◌<ℤ◌}
use Rattle.whole.specs.Order.{zz, add_is}
use Rattle.geom.specs.declared.Segment.{Segment}
use Rattle.geom.specs.Plane.{Before}
use Rattle.geom.specs.Off.{Off}
use Rattle.plane.specs.Weights.{Weights}
use Rattle.plane.proofs.WeightsLaws.{after_a, before_b}
use Rattle.plane.specs.Mean.{Inner, Mean, one_way}

abbrev mean_weights : {e : Segment} {P : Off} {u v : ℤ} → Mean e P u v → Weights e P
mean_weights {e} {P} {u} {v} M = record {
  u = u;
  v = v;
  u_low = M.u_low;
  v_low = M.v_low;
  some = omega (zz, P.over, M.total, add_is v u, add_is u v);
  mean_x = one_way u v P.X P.d (v *ℤ e.a.x.0 +ℤ u *ℤ e.b.x.0) M.total M.mean_x;
  mean_y = one_way u v P.Y P.d (v *ℤ e.a.y.0 +ℤ u *ℤ e.b.y.0) M.total M.mean_y;
}

pub mean-inner : {e : Segment} {P : Off} {u v : ℤ} → Before e.a e.b → Mean e P u v → pos 0 <ℤ u → pos 0 <ℤ v → Inner e P
mean-inner be M h k = record { left = after_a (mean_weights M) be h; right = before_b (mean_weights M) be k }
