-- What the derived comparisons of points say, in the words of the definitions: `<` is `before`, `==` is `same_point`.
use Rattle.std.specs.Prelude.{◌≡◌, Bool, ℤ, cond, true, false, refl, ◌&&◌, ◌<ℤ◌, Some}
use Rattle.std.specs.Int.Signed.{lt_z}
use Rattle.std.specs.Ordering.{partial_lt, partial_ordering_then, is_some_and, int_cmp}
use Rattle.std.proofs.Common.{Less, Equal, Greater, is_lt, is_eq}
use Rattle.std.proofs.lemmas.Cmp.{by_ranked, int_ranked}
use Rattle.whole.specs.Test.{tests}
use Rattle.geom.specs.Plane.{before, same_point, sameZ}
use Rattle.geom.specs.declared.Point.{Point}
use Rattle.geom.specs.contracts.PointPartialOrd.TheImpl.{partial_cmp-value}
use Rattle.geom.specs.contracts.PointPartialEq.TheImpl.{eq-value}
use Rattle.geom.specs.contracts.SegmentPartialEq.TheImpl.{eq-value as segment_eq}
use Rattle.geom.specs.contracts.CoordPartialEq.TheImpl.{eq-value as coord_eq}
use Rattle.geom.specs.contracts.CountPartialEq.TheImpl.{eq-value as count_eq}
use Rattle.geom.specs.contracts.CoordPartialOrd.TheImpl.{partial_cmp-value as coord_cmp}
use Rattle.geom.specs.declared.Segment.{Segment}
use Rattle.geom.specs.declared.Coord.{Coord}
use Rattle.geom.specs.declared.Count.{Count}

by_tests :
    (a b c d : Bool) →
    is_some_and is_lt (partial_ordering_then (Some (cond a Less (cond b Greater Equal))) (Some (cond c Less (cond d Greater Equal)))) ≡ cond a true (cond b false c)
by_tests true b c d = refl
by_tests false true c d = refl
by_tests false false true d = refl
by_tests false false false true = refl
by_tests false false false false = refl

pub lt_is_before : (p q : Point) → partial_lt partial_cmp-value.it p q ≡ before p q
unfolding before
lt_is_before p q = by_tests (lt_z p.x.0 q.x.0) (lt_z q.x.0 p.x.0) (lt_z p.y.0 q.y.0) (lt_z q.y.0 p.y.0)

-- the derived tests of two numbers
pub less : (a b : ℤ) → is_lt (int_cmp a b) ≡ lt_z a b
less a b = by_order (lt_z a b) (lt_z b a)
  where
    by_order : (c d : Bool) → is_lt (cond c Less (cond d Greater Equal)) ≡ c
    by_order true d = refl
    by_order false true = refl
    by_order false false = refl

pub equal : (a b : ℤ) → is_eq (int_cmp a b) ≡ sameZ a b
equal a b =
    by_ranked (a <ℤ b) (a ≡ b) (b <ℤ a) (int_cmp a b) (int_ranked a b (int_cmp a b) refl)
    (λ e h. simp tests)
    (λ e h. simp tests)
    (λ e h. simp tests)

pub both : (a b : Bool) → a && b ≡ cond a b false
both true b = refl
both false b = refl

pub eq_is_same_point : (p q : Point) → eq-value.it p q ≡ same_point p q
unfolding same_point
eq_is_same_point p q = rw (equal p.x.0 q.x.0, equal p.y.0 q.y.0) (both (sameZ p.x.0 q.x.0) (sameZ p.y.0 q.y.0))

pub coord_eq_is_same : (a b : Coord) → coord_eq.it a b ≡ sameZ a.0 b.0
coord_eq_is_same a b = equal a.0 b.0

pub coord_lt_is_less : (a b : Coord) → partial_lt coord_cmp.it a b ≡ lt_z a.0 b.0
coord_lt_is_less a b = less a.0 b.0

pub count_eq_is_same : (a b : Count) → count_eq.it a b ≡ sameZ a.0 b.0
count_eq_is_same a b = equal a.0 b.0

-- two segments: ends and counts
pub segment_eq_is_all_same : (s t : Segment) → segment_eq.it s t ≡ same_point s.a t.a && (same_point s.b t.b && (sameZ s.subject.0 t.subject.0 && sameZ s.clip.0 t.clip.0))
segment_eq_is_all_same s t =
    rw (eq_is_same_point s.a t.a, eq_is_same_point s.b t.b, equal s.subject.0 t.subject.0, equal s.clip.0 t.clip.0) refl
