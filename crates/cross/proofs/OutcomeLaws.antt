-- What comes of any two segments, by how they meet, and for every radius: all on one line, overlaid; kept apart by the signs, nothing; otherwise a point that is
-- an end of one or the middle point, and no end of a segment that it marks ("Crossing"). With at most one zero, no end of the segment that is marked lies on
-- the other's line; in the middle no end does.
use Rattle.std.specs.Prelude.{◌≡◌, Bool, cond, ◌||◌, ◌≢◌, ℕ, ◌+◌, ◌≤◌, ◌<◌, min, ltb, eqb, ℤ, pos, nat_abs, ◌-ℤ◌, None}
use Rattle.std.proofs.Math.Path.{refl}
use Rattle.std.proofs.Common.{ap, ◌∙◌, arith, eqb-true, leb-false, ltb-false}
use Rattle.std.proofs.Math.Bool.{true, false}
use Rattle.std.proofs.Math.Dec.{leb}
use Rattle.std.proofs.lemmas.Bool.{eqb-false}
use Rattle.whole.specs.Order.{zz, sub_is, split}
use Rattle.whole.specs.Sign.{abs_is}
use Rattle.whole.proofs.TestLaws.{and_l, and_r, neither}
use Rattle.geom.specs.declared.Point.{Point}
use Rattle.geom.specs.declared.Segment.{Segment}
use Rattle.geom.specs.Plane.{GridPoint, GridSegment, sign_of, side_of, against}
use Rattle.plane.specs.Apart.{o₁, o₂}
use Rattle.plane.specs.Meeting.{collinear, none, touching, crossing as through, meeting_by, meeting}
use Rattle.plane.specs.NoEnd.{NoEnd, NoZero, parted_no_zero, line_no_end}
use Rattle.plane.proofs.NoEndLaws.{a_no_end, b_no_end}
use Rattle.cross.specs.declared.answer.Kind.TheVariants.{Pure, TargetEnd, OtherEnd, Overlay}
use Rattle.cross.specs.Cross.{found, on_line, on_both, far, nearer, reach, snapped, middle, cross_point, zero, origin, cross_by, crossing}
use Rattle.cross.specs.Middle.{Middle, Sides}
use Rattle.cross.specs.Sides.{ends, middle_of}
use Rattle.middles.proofs.Boxes.{middle_on_grid}
use Rattle.cross.specs.Outcome.{Marked, Outcome, Place, t_a, t_b, o_a, o_b, between, both, on_other, on_target, overlaid, nothing, marked}

pub place_on_grid : {t o : Segment} {p : Point} → GridSegment t → GridSegment o → Place t o p → GridPoint p
place_on_grid gt go t_a = gt.a
place_on_grid gt go t_b = gt.b
place_on_grid gt go o_a = go.a
place_on_grid gt go o_b = go.b
place_on_grid gt go (between m) = middle_on_grid gt m

-- ---- a middle crossing

no_zero : (z : ℤ) → eqb (nat_abs z) 0 ≡ true → z ≡ pos 0
no_zero z e = omega (zz, abs_is z, eqb-true (nat_abs z) 0 e)

far_none : (p : Point) → far p p ≡ 0
unfolding far
far_none p = rw (no_gap p.x.0, no_gap p.y.0)
  where
    no_gap : (z : ℤ) → nat_abs (z -ℤ z) ≡ 0
    no_gap z = omega (zz, abs_is (z -ℤ z), sub_is z z, split (z -ℤ z))

-- a point beyond the radius of both ends is neither
beyond : (v : Segment) (p : Point) (radius : ℕ) → leb (reach v p) radius ≡ false → NoEnd v p
unfolding reach
beyond v p radius e =
    let l : radius < min (far v.a p) (far v.b p) = leb-false (min (far v.a p) (far v.b p)) radius e in
    record { not_a = λ h. off v.a h (omega arith); not_b = λ h. off v.b h (omega arith) }
  where
    off : (q : Point) → p ≡ q → radius < far q p → ⊥
    off q h l = let z : far q p ≡ 0 = ap (λ t. far q t) h ∙ far_none q in omega arith

module _ (radius : ℕ) {t o : Segment} (m : Middle t o) where
  t_off : NoZero (o₁ o t) (o₂ o t)
  t_off = parted_no_zero m.target

  o-off : NoZero (o₁ t o) (o₂ t o)
  o-off = parted_no_zero m.other

  exact : on_both t o (cross_point t o) ≡ true → Marked t o (found (cross_point t o) Pure false)
  unfolding on_both
  exact e =
      let p = cross_point t o in
      both (between m)
      (line_no_end t o p t_off (no_zero (against o p) (and_r (on_line t p) (on_line o p) e)))
      (line_no_end o t p o-off (no_zero (against t p) (and_l (on_line t p) (on_line o p) e)))

  target-end : (p : Point) → Marked t o (found (nearer t p) TargetEnd true)
  unfolding nearer
  target-end p = go (ltb (far t.a p) (far t.b p))
    where
      go : (b : Bool) → Marked t o (found (cond b t.a t.b) TargetEnd true)
      go true = on_other t_a (a_no_end o t o-off)
      go false = on_other t_b (b_no_end o t o-off)

  other-end : (p : Point) → Marked t o (found (nearer o p) OtherEnd true)
  unfolding nearer
  other-end p = go (ltb (far o.a p) (far o.b p))
    where
      go : (b : Bool) → Marked t o (found (cond b o.a o.b) OtherEnd true)
      go true = on_target o_a (a_no_end t o t_off)
      go false = on_target o_b (b_no_end t o t_off)

  moved : Marked t o (snapped radius t o (cross_point t o))
  unfolding snapped
  moved = go (leb (reach t p) radius || leb (reach o p) radius) (leb (reach t p) (reach o p)) refl
    where
      p : Point
      p = cross_point t o

      go : (b c : Bool) → (leb (reach t p) radius || leb (reach o p) radius) ≡ b
          → Marked t o (cond b (cond c (found (nearer t p) TargetEnd true) (found (nearer o p) OtherEnd true)) (found p Pure true))
      go true true e = target-end p
      go true false e = other-end p
      go false c e =
          let n = neither (leb (reach t p) radius) (leb (reach o p) radius) e in
          both (between m) (beyond t p radius n.0) (beyond o p radius n.1)

  pub middle-marked : Marked t o (middle radius t o (cross_point t o))
  unfolding middle
  middle-marked = go (on_both t o (cross_point t o)) refl
    where
      go : (b : Bool) → on_both t o (cross_point t o) ≡ b → Marked t o (cond b (found (cross_point t o) Pure false) (snapped radius t o (cross_point t o)))
      go true e = exact e
      go false e = moved

-- ---- by the sides

off-line : (v : Segment) (p : Point) {s : ℕ} → s ≡ side_of v.a v.b p → s ≢ 1 → against v p ≢ pos 0
unfolding side_of
off-line v p e n z = n (e ∙ ap sign_of z)

module _ (radius : ℕ) {t o : Segment} {s1 s2 s3 s4 : ℕ} (s : Sides t o s1 s2 s3 s4) (few : zero s1 + zero s2 + zero s3 + zero s4 ≤ 1) (n : s1 ≢ s2) (m : s3 ≢ s4) where
  t_clear : s3 ≢ 1 → s4 ≢ 1 → NoZero (o₁ o t) (o₂ o t)
  t_clear h k = record { first = off-line o t.a s.third h; second = off-line o t.b s.fourth k }

  o-clear : s1 ≢ 1 → s2 ≢ 1 → NoZero (o₁ t o) (o₂ t o)
  o-clear h k = record { first = off-line t o.a s.first h; second = off-line t o.b s.second k }

  ends-marked : Marked t o (ends radius t o s1 s2 s3 s4)
  ends-marked = go (eqb s1 1) (eqb s2 1) (eqb s3 1) (eqb s4 1) refl refl refl refl
    where
      go : (a b c d : Bool) → eqb s1 1 ≡ a → eqb s2 1 ≡ b → eqb s3 1 ≡ c → eqb s4 1 ≡ d
          → Marked t o (cond a (found o.a OtherEnd false) (cond b (found o.b OtherEnd false) (cond c (found t.a TargetEnd false) (cond d (found t.b TargetEnd false) (middle radius t o (cross_point t o))))))
      go true b c d e f g h = let z = eqb-true s1 1 e in on_target o_a (a_no_end t o (t_clear (λ x. omega arith) (λ x. omega arith)))
      go false true c d e f g h = let z = eqb-true s2 1 f in on_target o_b (b_no_end t o (t_clear (λ x. omega arith) (λ x. omega arith)))
      go false false true d e f g h = let z = eqb-true s3 1 g in on_other t_a (a_no_end o t (o-clear (λ x. omega arith) (λ x. omega arith)))
      go false false false true e f g h = let z = eqb-true s4 1 h in on_other t_b (b_no_end o t (o-clear (λ x. omega arith) (λ x. omega arith)))
      go false false false false e f g h = middle-marked radius (middle_of s n m (eqb-false s1 1 e) (eqb-false s2 1 f) (eqb-false s3 1 g) (eqb-false s4 1 h))

by_outcome : (radius : ℕ) {t o : Segment} {s1 s2 s3 s4 : ℕ} → Sides t o s1 s2 s3 s4 → Outcome t o (meeting_by s1 s2 s3 s4) (cross_by radius t o s1 s2 s3 s4)
unfolding meeting_by cross_by
by_outcome radius {t} {o} {s1} {s2} {s3} {s4} s = go (eqb zeros 4) (ltb 1 zeros || (eqb s1 s2 || eqb s3 s4)) refl
  where
    zeros : ℕ
    zeros = zero s1 + zero s2 + zero s3 + zero s4

    go : (b c : Bool) → (ltb 1 zeros || (eqb s1 s2 || eqb s3 s4)) ≡ c
        → Outcome t o (cond b collinear (cond c none (cond (eqb zeros 1) touching through))) (cond b (found origin Overlay false) (cond c None (ends radius t o s1 s2 s3 s4)))
    go true c e = overlaid
    go false true e = nothing
    go false false e =
        let f = neither (ltb 1 zeros) (eqb s1 s2 || eqb s3 s4) e in
        let g = neither (eqb s1 s2) (eqb s3 s4) f.1 in
        marked (eqb zeros 1) (ends-marked radius s (ltb-false 1 zeros f.0) (eqb-false s1 s2 g.0) (eqb-false s3 s4 g.1))

pub outcome : (radius : ℕ) (t o : Segment) → Outcome t o (meeting t o) (crossing radius t o)
unfolding crossing
outcome radius t o = by_outcome radius (record { first = refl; second = refl; third = refl; fourth = refl })
