-- Where a point lies by an edge's line, as an ordering, and what follows for the edge that starts there; the derived tests of points and coordinates.
use Rattle.std.specs.Prelude.{◌≡◌, refl, Bool, true, false, not, cond, ℤ, pos, ◌<ℤ◌, Some}
use Rattle.std.specs.Int.Signed.{lt_z}
use Rattle.std.specs.Ordering.{partial_le, partial_ordering_then, is_some_and, is_le, is_gt, is_eq, int_cmp}
use Rattle.std.proofs.Common.{Less, Equal, Greater}
use Rattle.whole.specs.Sign.{Tri, less, same, more}
use Rattle.whole.proofs.SignLaws.{tri}
use Rattle.whole.specs.Test.{tests}
use Rattle.geom.specs.Plane.{before, against, sameZ}
use Rattle.geom.specs.declared.Coord.{Coord}
use Rattle.geom.specs.declared.Point.{Point}
use Rattle.geom.specs.declared.Segment.{Segment}
use Rattle.geom.specs.contracts.CoordPartialEq.TheImpl.{eq-value}
use Rattle.geom.specs.contracts.PointPartialOrd.TheImpl.{partial_cmp-value}
use Rattle.edges.specs.Below.{over, level, height_at}

-- ---- points and coordinates

by_tests :
    (a b c d : Bool) → (a ≡ true → b ≡ false) → (c ≡ true → d ≡ false) →
    is_some_and is_le (partial_ordering_then (Some (cond a Less (cond b Greater Equal))) (Some (cond c Less (cond d Greater Equal)))) ≡ not (cond b true (cond a false d))
by_tests true true c d p q = absurd (cc (p refl))
by_tests true false c d p q = refl
by_tests false true c d p q = refl
by_tests false false true true p q = absurd (cc (q refl))
by_tests false false true false p q = refl
by_tests false false false true p q = refl
by_tests false false false false p q = refl

one_way : (a b : ℤ) → lt_z a b ≡ true → lt_z b a ≡ false
one_way a b = go (tri a b)
  where
    go : Tri a b → lt_z a b ≡ true → lt_z b a ≡ false
    go (less h) e = simp tests
    go (same h) e = cc (by_same h)
      where
        by_same : a ≡ b → lt_z a b ≡ false
        by_same h = simp tests
    go (more h) e = cc (by_more h)
      where
        by_more : b <ℤ a → lt_z a b ≡ false
        by_more h = simp tests

pub le_is_not_before : (p q : Point) → partial_le partial_cmp-value.it p q ≡ not (before q p)
unfolding before
le_is_not_before p q =
    by_tests (lt_z p.x.0 q.x.0) (lt_z q.x.0 p.x.0) (lt_z p.y.0 q.y.0) (lt_z q.y.0 p.y.0) (one_way p.x.0 q.x.0) (one_way p.y.0 q.y.0)

equal : (a b : ℤ) → is_eq (int_cmp a b) ≡ sameZ a b
equal a b = go (tri a b)
  where
    go : Tri a b → is_eq (int_cmp a b) ≡ sameZ a b
    go (less k) = simp tests
    go (same k) = simp tests
    go (more k) = simp tests

pub eq_is_same : (a b : Coord) → eq-value.it a b ≡ sameZ a.0 b.0
eq_is_same a b = equal a.0 b.0

-- ---- heights

is_gt-cmp : (h : ℤ) → is_gt (int_cmp h (pos 0)) ≡ lt_z (pos 0) h
is_gt-cmp h = go (tri h (pos 0))
  where
    go : Tri h (pos 0) → is_gt (int_cmp h (pos 0)) ≡ lt_z (pos 0) h
    go (less k) = simp tests
    go (same k) = simp tests
    go (more k) = simp tests

pub is_gt_height : (t : Segment) (p : Point) → is_gt (height_at t p) ≡ over t p
is_gt_height t p = is_gt-cmp (against t p)

pub is_eq_height : (t : Segment) (p : Point) → is_eq (height_at t p) ≡ level t p
is_eq_height t p = equal (against t p) (pos 0)
