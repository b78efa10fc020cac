-- Each test of Plane decides its sentence: true where the sentence holds, false where it does not. The laws of deciding are whole's, passed on with the tests.
use Rattle.std.specs.Prelude.{◌≡◌, Bool, true, false, cond, ◌↔◌, ◌⊎◌, ◌^◌, ℤ, pos, neg_ℤ, ◌≤ℤ◌, ◌<ℤ◌}
use Rattle.std.proofs.Common.{ap, inl, inr}
use Rattle.whole.specs.Order.{zz, mag_in, mag_out, nlt_in}
use Rattle.whole.specs.Sign.{Tri, less, same, more}
use Rattle.whole.proofs.SignLaws.{tri}
use Rattle.whole.specs.Decide.{Decides, yes, no, fails, said, both, either, unless}
use Rattle.whole.proofs.DecideLaws.{when_true, lt?, same?}
use Rattle.geom.specs.declared.Point.{Point}
use Rattle.geom.specs.declared.Segment.{Segment}
use Rattle.geom.specs.Plane.{OnGrid, GridPoint, GridSegment, on_grid, grid_point, grid_segment, Before, by_x, by_y, before, between, same_point, upright, turn, sign_of, side_of}
use Rattle.geom.specs.Order.{point-eq, before-differ}
use Rattle.geom.specs.Tests.{Sign, under, zero, over}

-- ---- the grid

pub grid_is : (z : ℤ) → OnGrid z ↔ ((neg_ℤ (pos (2 ^ 30)) ≤ℤ z) × (z <ℤ pos (2 ^ 30)))
grid_is z = ((λ g. (omega (zz, g.near, mag_in z), omega (zz, g.near, mag_in z))), λ h. record { near = mag_out z (omega (zz, h.0, h.1)) (omega (zz, h.0, h.1)) })

pub on_grid? : (z : ℤ) → Decides (OnGrid z) (on_grid z)
unfolding on_grid
on_grid? z = said (λ h. (grid_is z).1 (omega (zz, nlt_in h.0), h.1)) (λ g. ((λ l. omega (zz, ((grid_is z).0 g).0)), ((grid_is z).0 g).1)) (unless (lt? z (neg_ℤ (pos (2 ^ 30)))) (lt? z (pos (2 ^ 30))))

pub grid_point? : (p : Point) → Decides (GridPoint p) (grid_point p)
unfolding grid_point
grid_point? p = said (λ h. record { x = h.0; y = h.1 }) (λ g. (g.x, g.y)) (both (on_grid? p.x.0) (on_grid? p.y.0))

pub grid_segment? : (v : Segment) → Decides (GridSegment v) (grid_segment v)
unfolding grid_segment
grid_segment? v = said (λ h. record { a = h.0; b = h.1 }) (λ g. (g.a, g.b)) (both (grid_point? v.a) (grid_point? v.b))

-- ---- points

pub before? : (p q : Point) → Decides (Before p q) (before p q)
unfolding before
before? p q = said to from (either (lt? p.x.0 q.x.0) (unless (lt? q.x.0 p.x.0) (lt? p.y.0 q.y.0)))
  where
    by_tri : Tri p.x.0 q.x.0 → (q.x.0 <ℤ p.x.0 → ⊥) → p.y.0 <ℤ q.y.0 → Before p q
    by_tri (less h) n k = by_x h
    by_tri (same h) n k = by_y h k
    by_tri (more h) n k = absurd (n h)

    to : (p.x.0 <ℤ q.x.0) ⊎ ((q.x.0 <ℤ p.x.0 → ⊥) × (p.y.0 <ℤ q.y.0)) → Before p q
    to (inl h) = by_x h
    to (inr h) = by_tri (tri p.x.0 q.x.0) h.0 h.1

    from : Before p q → (p.x.0 <ℤ q.x.0) ⊎ ((q.x.0 <ℤ p.x.0 → ⊥) × (p.y.0 <ℤ q.y.0))
    from (by_x h) = inl h
    from (by_y e h) = inr ((λ k. omega zz), h)

pub between? : (p q r : Point) → Decides (Before p q × Before q r) (between p q r)
unfolding between
between? p q r = both (before? p q) (before? q r)

pub same_point? : (p q : Point) → Decides (p ≡ q) (same_point p q)
unfolding same_point
same_point? p q = said (λ h. point-eq h.0 h.1) (λ e. (ap (λ t. t.x.0) e, ap (λ t. t.y.0) e)) (both (same? p.x.0 q.x.0) (same? p.y.0 q.y.0))

-- one of the two tests at most
pub before_not_same : (p q : Point) → before p q ≡ true → same_point p q ≡ false
before_not_same p q e = fails (same_point? p q) (before-differ (when_true (before? p q) e))

pub upright? : (v : Segment) → Decides (v.a.x.0 ≡ v.b.x.0) (upright v)
unfolding upright
upright? v = same? v.a.x.0 v.b.x.0

pub sign? : (z : ℤ) → Sign z (sign_of z)
sign? z = go (lt? z (pos 0)) (lt? (pos 0) z)
  where
    go : {a b : Bool} → Decides (z <ℤ pos 0) a → Decides (pos 0 <ℤ z) b → Sign z (cond a 0 (cond b 2 1))
    go (yes h) d = under h
    go (no f) (yes h) = over h
    go (no f) (no g) = zero (omega (zz, nlt_in f, nlt_in g))

pub side? : (o p q : Point) → Sign (turn o p q) (side_of o p q)
unfolding side_of
side? o p q = sign? (turn o p q)
