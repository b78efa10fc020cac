-- What the sides say: on a line where the side is 1; nothing where both ends of other lie on one side of target's line; a middle crossing where no end
-- lies on the other's line and the sides of each couple differ.
use Rattle.std.specs.Prelude.{◌≡◌, refl, Bool, true, false, cond, ◌&&◌, ◌||◌, ◌≢◌, ℕ, ◌+◌, ◌≤◌, ◌<◌, ltb, eqb, ℤ, nat_abs, Option, None}
use Rattle.std.proofs.Common.{sym, subst, inl, inr, arith}
use borrow.Author.Tests.{eq-eqb, ne_eqb, eqb-true, eqb-false, le-ltb}
use Rattle.whole.specs.Order.{zz, split}
use Rattle.whole.specs.Sign.{abs_is}
use Rattle.whole.proofs.TestLaws.{and_l, and_r, or_true, neither}
use Rattle.geom.specs.declared.Point.{Point}
use Rattle.geom.specs.declared.Segment.{Segment}
use Rattle.geom.specs.Plane.{sign_of, side_of, against}
use Rattle.plane.specs.Apart.{o₁, o₂}
use Rattle.plane.specs.Meeting.{Sign, under, level, over, Parted}
use Rattle.plane.proofs.MeetingLaws.{sign}
use Rattle.cross.specs.declared.answer.Cross.{Cross}
use Rattle.cross.specs.declared.answer.Kind.TheVariants.{TargetEnd, OtherEnd}
use Rattle.cross.specs.Cross.{found, zero, on_line, cross_point, middle, cross_by, crossing}
use Rattle.cross.specs.Middle.{Middle, Sides, zeros_of}

-- ---- on a line

pub side_on_line : (v : Segment) (p : Point) → eqb (side_of v.a v.b p) 1 ≡ on_line v p
unfolding side_of
side_on_line v p = go (sign (against v p))
  where
    go : {s : ℕ} → Sign (against v p) s → eqb s 1 ≡ on_line v p
    go (under h) = sym (ne_eqb (nat_abs (against v p)) 0 (λ e. omega (zz, abs_is (against v p))))
    go (level h) = sym (eq-eqb (nat_abs (against v p)) 0 (omega (zz, abs_is (against v p), split (against v p))))
    go (over h) = sym (ne_eqb (nat_abs (against v p)) 0 (λ e. omega (zz, abs_is (against v p))))

-- ---- at most one zero, and the sides of each couple differ: what the definition then comes to

abbrev pub ends : ℕ → Segment → Segment → ℕ → ℕ → ℕ → ℕ → Option Cross
ends radius t o s1 s2 s3 s4 =
    cond (eqb s1 1) (found o.a OtherEnd false)
    (cond (eqb s2 1) (found o.b OtherEnd false)
    (cond (eqb s3 1) (found t.a TargetEnd false)
    (cond (eqb s4 1) (found t.b TargetEnd false) (middle radius t o (cross_point t o)))))

pub by_ends : (radius : ℕ) (t o : Segment) (s1 s2 s3 s4 : ℕ) → zero s1 + zero s2 + zero s3 + zero s4 ≢ 4 → zero s1 + zero s2 + zero s3 + zero s4 ≤ 1 → s1 ≢ s2 → s3 ≢ s4
    → cross_by radius t o s1 s2 s3 s4 ≡ ends radius t o s1 s2 s3 s4
unfolding cross_by
by_ends radius t o s1 s2 s3 s4 n l h k =
    let zeros = zero s1 + zero s2 + zero s3 + zero s4 in
    rw (ne_eqb zeros 4 n, le-ltb 1 zeros l, ne_eqb s1 s2 h, ne_eqb s3 s4 k)

-- ---- both ends of other on one side, and neither on the line

unfoldable pub beside : Segment → Segment → Bool
beside t o = eqb (side_of t.a t.b o.a) (side_of t.a t.b o.b) && eqb (zero (side_of t.a t.b o.a)) 0

equal_signs : (radius : ℕ) (t o : Segment) (s1 s2 s3 s4 : ℕ) → s1 ≡ s2 → zero s1 ≡ 0 → cross_by radius t o s1 s2 s3 s4 ≡ None
unfolding cross_by
equal_signs radius t o s1 s2 s3 s4 h k =
    let few : zero s1 + zero s2 + zero s3 + zero s4 ≢ 4 = λ e. omega arith in
    rw (ne_eqb (zero s1 + zero s2 + zero s3 + zero s4) 4 few, eq-eqb s1 s2 h, or_true (ltb 1 (zero s1 + zero s2 + zero s3 + zero s4)))

pub one_side : (radius : ℕ) (t o : Segment) → beside t o ≡ true → crossing radius t o ≡ None
unfolding beside crossing
one_side radius t o e =
    let s1 = side_of t.a t.b o.a in
    let s2 = side_of t.a t.b o.b in
    equal_signs radius t o s1 s2 (side_of o.a o.b t.a) (side_of o.a o.b t.b) (eqb-true s1 s2 (and_l (eqb s1 s2) (eqb (zero s1) 0) e)) (eqb-true (zero s1) 0 (and_r (eqb s1 s2) (eqb (zero s1) 0) e))

-- ---- some end on the other's line

-- a side that is not 1 is even
even : (v : Segment) (p : Point) {s : ℕ} → s ≡ side_of v.a v.b p → s ≢ 1 → zero s ≡ 0
unfolding side_of
even v p {s} e n = go (sign (against v p)) e
  where
    go : {r : ℕ} → Sign (against v p) r → s ≡ r → zero s ≡ 0
    go (under h) f = rw f
    go (level h) f = absurd (n f)
    go (over h) f = rw f

-- so with some end on a line and none of the first three it is the last
pub last_end : {t o : Segment} {s1 s2 s3 s4 : ℕ} → Sides t o s1 s2 s3 s4 → 0 < zeros_of s1 s2 s3 s4 → s1 ≢ 1 → s2 ≢ 1 → s3 ≢ 1 → eqb s4 1 ≡ true
last_end {t} {o} {s1} {s2} {s3} {s4} s h a b c = go (eqb s4 1) refl
  where
    go : (l : Bool) → eqb s4 1 ≡ l → l ≡ true
    go true e = refl
    go false e = absurd (omega (arith, even t o.a s.first a, even t o.b s.second b, even o t.a s.third c, even o t.b s.fourth (eqb-false s4 1 e)))

-- ---- no end on the other's line, and the sides of each couple differ

couple : {y z : ℤ} {s r : ℕ} → Sign y s → Sign z r → s ≢ r → s ≢ 1 → r ≢ 1 → Parted y z
couple (under h) (under k) n m l = absurd (n refl)
couple (under h) (level k) n m l = absurd (l refl)
couple (under h) (over k) n m l = inl (h, k)
couple (level h) k n m l = absurd (m refl)
couple (over h) (under k) n m l = inr (h, k)
couple (over h) (level k) n m l = absurd (l refl)
couple (over h) (over k) n m l = absurd (n refl)

pub middle_of : {t o : Segment} {s1 s2 s3 s4 : ℕ} → Sides t o s1 s2 s3 s4 → s1 ≢ s2 → s3 ≢ s4 → s1 ≢ 1 → s2 ≢ 1 → s3 ≢ 1 → s4 ≢ 1 → Middle t o
unfolding side_of
middle_of {t} {o} {s1} {s2} {s3} {s4} s n m a b c d = record {
  other = couple (known (o₁ t o) s1 s.first) (known (o₂ t o) s2 s.second) n a b;
  target = couple (known (o₁ o t) s3 s.third) (known (o₂ o t) s4 s.fourth) m c d;
}
  where
    known : (z : ℤ) (r : ℕ) → r ≡ sign_of z → Sign z r
    known z r e = subst (Sign z) (sym e) (sign z)

pub parted_middle : {t o : Segment} {s1 s2 s3 s4 : ℕ} → Sides t o s1 s2 s3 s4 → zeros_of s1 s2 s3 s4 ≤ 0 → (eqb s1 s2 || eqb s3 s4) ≡ false → Middle t o
parted_middle {s1} {s2} {s3} {s4} s clear e =
    let n = neither (eqb s1 s2) (eqb s3 s4) e in
    middle_of s (eqb-false s1 s2 n.0) (eqb-false s3 s4 n.1) (λ z. omega arith) (λ z. omega arith) (λ z. omega arith) (λ z. omega arith)

-- what the definition then comes to
module _ (radius : ℕ) (t o : Segment) (s1 s2 s3 s4 : ℕ) (clear : zeros_of s1 s2 s3 s4 ≤ 0) where
  pub clear-other : s1 ≡ s2 → cross_by radius t o s1 s2 s3 s4 ≡ None
  clear-other e = equal_signs radius t o s1 s2 s3 s4 e (omega arith)

  pub clear-target : s1 ≢ s2 → s3 ≡ s4 → cross_by radius t o s1 s2 s3 s4 ≡ None
  unfolding cross_by
  clear-target n e =
      let zeros = zeros_of s1 s2 s3 s4 in
      rw (ne_eqb zeros 4 (λ z. omega arith), le-ltb 1 zeros (omega arith), ne_eqb s1 s2 n, eq-eqb s3 s4 e)

  pub clear-parted : Sides t o s1 s2 s3 s4 → s1 ≢ s2 → s3 ≢ s4 → Middle t o
  clear-parted s n m = middle_of s n m (λ z. omega arith) (λ z. omega arith) (λ z. omega arith) (λ z. omega arith)

  pub clear-middle : s1 ≢ s2 → s3 ≢ s4 → cross_by radius t o s1 s2 s3 s4 ≡ middle radius t o (cross_point t o)
  clear-middle n m =
      rw (by_ends radius t o s1 s2 s3 s4 (λ z. omega arith) (omega arith) n m, ne_eqb s1 1 (λ z. omega arith), ne_eqb s2 1 (λ z. omega arith), ne_eqb s3 1 (λ z. omega arith), ne_eqb s4 1 (λ z. omega arith))
