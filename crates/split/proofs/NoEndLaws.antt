-- Every mark of a pair names one of the two, its point is no end of that segment and on the grid; for every radius ("Crossing"). And the end that a middle point is
-- moved to never lies on the other line, so that there is nothing to skip.
use Rattle.std.specs.Prelude.{◌≡◌, refl, Bool, true, false, cond, ◌||◌, ◌≢◌, ℕ, ltb, pos, Option}
use Rattle.std.proofs.Common.{subst}
use Rattle.whole.specs.Sum.{All, none, also}
use Rattle.whole.proofs.SumLaws.{all_append}
use Rattle.geom.specs.declared.Point.{Point}
use Rattle.geom.specs.declared.Segment.{Segment}
use Rattle.geom.specs.Plane.{GridPoint, GridSegment, Before, between, against}
use Rattle.geom.specs.Order.{before_irr}
use Rattle.geom.specs.Tests.{when_true}
use Rattle.geom.proofs.TestsLaws.{between?}
use Rattle.plane.specs.Meeting.{Meeting}
use Rattle.plane.specs.NoEnd.{NoEnd, NoZero, parted_no_zero}
use Rattle.cross.specs.declared.answer.Cross.{Cross}
use Rattle.split.specs.declared.answer.Mark.{Mark}
use Rattle.cross.specs.Cross.{inner, far, nearer}
use Rattle.cross.specs.Middle.{Middle}
use Rattle.split.specs.Look.{mark, one, line_marks, kind_marks, cross_marks, pair_marks}
use Rattle.cross.specs.Outcome.{t_a, t_b, o_a, o_b, Marked, both, on_other, on_target, Outcome, overlaid, nothing, marked}
use Rattle.cross.proofs.OutcomeLaws.{place_on_grid, outcome}
use Rattle.split.specs.NoEnd.{MarkOf, of_target, of_other}

-- ---- on one line: what lies strictly between two points is neither

either : (a b : Bool) (P : Type 0) → (a ≡ true → P) → (b ≡ true → P) → (a || b) ≡ true → P
either true b P f g e = f refl
either false b P f g e = g e

not_end : {p q r : Point} → Before p q → Before q r → (q ≢ p) × (q ≢ r)
not_end {p} {q} {r} h k = (λ e. before_irr (subst (Before p) e h), λ e. before_irr (subst (λ z. Before z r) e k))

pub inner_no_end : (v : Segment) (p : Point) → inner v p ≡ true → NoEnd v p
unfolding inner
inner_no_end v p e = either (between v.a p v.b) (between v.b p v.a) (NoEnd v p) first second e
  where
    first : between v.a p v.b ≡ true → NoEnd v p
    first h = let b = when_true (between? v.a p v.b) h in let n = not_end b.0 b.1 in record { not_a = n.0; not_b = n.1 }

    second : between v.b p v.a ≡ true → NoEnd v p
    second h = let b = when_true (between? v.b p v.a) h in let n = not_end b.0 b.1 in record { not_a = n.1; not_b = n.0 }

all_one : {P : Mark → Type 0} (b : Bool) (m : Mark) → (b ≡ true → P m) → All P (one b m)
unfolding one
all_one true m f = also (f refl) none
all_one false m f = none

module _ (i j : ℕ) (t o : Segment) where
  line-marks : All (MarkOf i j t o) (line_marks i j t o)
  unfolding line_marks
  line-marks =
      all_append (all_append (all_append
      (all_one (inner o t.a) (mark j t.a) (λ e. of_other t_a (inner_no_end o t.a e)))
      (all_one (inner o t.b) (mark j t.b) (λ e. of_other t_b (inner_no_end o t.b e))))
      (all_one (inner t o.a) (mark i o.a) (λ e. of_target o_a (inner_no_end t o.a e))))
      (all_one (inner t o.b) (mark i o.b) (λ e. of_target o_b (inner_no_end t o.b e)))

  of_marked : {c : Option Cross} → Marked t o c → All (MarkOf i j t o) (cross_marks i j t o c)
  unfolding cross_marks kind_marks
  of_marked (both p h k) = also (of_target p h) (also (of_other p k) none)
  of_marked (on_other p h) = also (of_other p h) none
  of_marked (on_target p h) = also (of_target p h) none

  of_outcome : {m : Meeting} {c : Option Cross} → Outcome t o m c → All (MarkOf i j t o) (cross_marks i j t o c)
  unfolding cross_marks kind_marks
  of_outcome overlaid = line-marks
  of_outcome nothing = none
  of_outcome (marked b m) = of_marked m

  pub marks_no_end : (radius : ℕ) → All (MarkOf i j t o) (pair_marks radius i j t o)
  marks_no_end radius = of_outcome (outcome radius t o)

pub mark_on_grid : {i j : ℕ} {t o : Segment} {m : Mark} → GridSegment t → GridSegment o → MarkOf i j t o m → GridPoint m.point
mark_on_grid gt go (of_target p h) = place_on_grid gt go p
mark_on_grid gt go (of_other p h) = place_on_grid gt go p

-- ---- the end that is taken

pub end-off-line : (t o : Segment) (p : Point) → NoZero (against o t.a) (against o t.b) → against o (nearer t p) ≢ pos 0
unfolding nearer
end-off-line t o p n = go (ltb (far t.a p) (far t.b p))
  where
    go : (b : Bool) → against o (cond b t.a t.b) ≢ pos 0
    go true = n.first
    go false = n.second

pub taken-off-line : {t o : Segment} (p : Point) → Middle t o → (against o (nearer t p) ≢ pos 0) × (against t (nearer o p) ≢ pos 0)
taken-off-line {t} {o} p m = (end-off-line t o p (parted_no_zero m.target), end-off-line o t p (parted_no_zero m.other))
