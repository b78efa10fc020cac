-- Along one line the order of points is the sign of the dot product, by which cross_solver.rs finds the ends inside the other segment.
use Rattle.std.specs.Prelude.{◌≡◌, ◌↔◌, pos, ◌<ℤ◌}
use Rattle.geom.specs.declared.Point.{Point}
use Rattle.geom.specs.declared.Segment.{Segment}
use Rattle.geom.specs.Plane.{Before, against}
use Rattle.plane.proofs.TurnsLaws.{turn_self, turn_end}
use Rattle.plane.specs.Pierce.{Inside}
use Rattle.plane.specs.Dot.{dot, dot-order}

-- so p is strictly inside e exactly if the steps from e.a to p and from p to e.b both run along e
pub inside_dots : (e : Segment) (p : Point) → Before e.a e.b → against e p ≡ pos 0 → Inside e p ↔ ((pos 0 <ℤ dot e e.a p) × (pos 0 <ℤ dot e p e.b))
inside_dots e p be h =
    let l = dot-order e e.a p be (turn_self e.a e.b) h in
    let r = dot-order e p e.b be h (turn_end e.a e.b) in
    (λ i. (l.1 i.after, r.1 i.ahead), λ d. record { after = l.0 d.0; ahead = r.0 d.1 })
