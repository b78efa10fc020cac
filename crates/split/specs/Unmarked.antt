-- Different forward segments yield no mark exactly if they are `Apart`, for every radius: a look without marks is a settled list.
use Rattle.std.specs.Prelude.{◌≡◌, refl, Bool, not, cond, ◌||◌, List, [], ◌∷◌, ◌++◌, ◌↔◌, ℕ, Option}
use Rattle.std.proofs.Math.Bool.{true, false}
use Rattle.std.proofs.Common.{arith}
use Rattle.whole.proofs.TestLaws.{or_false}
use Rattle.geom.specs.declared.Point.{Point}
use Rattle.geom.specs.declared.Segment.{Segment}
use Rattle.geom.specs.Plane.{Before, between}
use Rattle.geom.specs.Order.{before_irr, before-trans}
use Rattle.geom.specs.Tests.{Decides, yes, no, fails}
use Rattle.geom.proofs.TestsLaws.{between?}
use Rattle.plane.specs.Apart.{Apart}
use Rattle.plane.specs.Meeting.{Meeting, touching, crossing as through}
use Rattle.plane.specs.Pierce.{Different}
use Rattle.plane.specs.Unmarked.{inside, some_inside, no_mark, unmarked}
use Rattle.plane.proofs.UnmarkedLaws.{unmarked?}
use Rattle.cross.specs.declared.answer.Cross.{Cross}
use Rattle.split.specs.declared.answer.Mark.{Mark}
use Rattle.cross.specs.Cross.{inner}
use Rattle.split.specs.Look.{mark, one, line_marks, kind_marks, cross_marks, pair_marks}
use Rattle.cross.specs.Outcome.{Marked, both, on_other, on_target, Outcome, overlaid, nothing, marked}
use Rattle.cross.proofs.OutcomeLaws.{outcome}

-- the test says whether there is no mark
data NoMark : List Mark → Bool → Type 0 where
  empty : NoMark [] true
  full : {m : Mark} {L : List Mark} → NoMark (m ∷ L) false

of_one : (b : Bool) (m : Mark) → NoMark (one b m) (not b)
unfolding one
of_one true m = full
of_one false m = empty

-- joined to the marks of one test more
with_one_lem : {K : List Mark} (a b : Bool) (m : Mark) → NoMark K (not a) → NoMark (K ++ one b m) (not (a || b))
with_one_lem false b m empty = of_one b m
with_one_lem true b m full = full

decides : {L : List Mark} {n : Bool} → NoMark L n → Decides (L ≡ []) n
decides empty = yes refl
decides full = no (λ e. let z : ◌≡◌ {A = ℕ} 0 1 = cc in omega arith)

-- ---- on one line: forward, an end lies strictly between the other's ends the one way round

inner-forward : (v : Segment) (p : Point) → Before v.a v.b → inner v p ≡ inside v p
unfolding inner
inner-forward v p h =
    rw (fails (between? v.b p v.a) (λ k. before_irr (before-trans h (before-trans k.0 k.1)))) (or_false (between v.a p v.b))

-- target's two tests after other's, and before them
around : (x c d : Bool) → ((x || c) || d) ≡ ((c || d) || x)
around true true d = refl
around true false true = refl
around true false false = refl
around false true d = refl
around false false true = refl
around false false false = refl

module _ (i j : ℕ) (t o : Segment) (ft : Before t.a t.b) (fo : Before o.a o.b) where
  on_line : NoMark (line_marks i j t o) (not (some_inside t o))
  unfolding line_marks
  on_line =
      rw (inner-forward o t.a fo, inner-forward o t.b fo, inner-forward t o.a ft, inner-forward t o.b ft, ← around (inside o t.a || inside o t.b) (inside t o.a) (inside t o.b))
      (with_one_lem ((inside o t.a || inside o t.b) || inside t o.a) (inside t o.b) (mark i o.b)
      (with_one_lem (inside o t.a || inside o t.b) (inside t o.a) (mark i o.a)
      (with_one_lem (inside o t.a) (inside o t.b) (mark j t.b) (of_one (inside o t.a) (mark j t.a)))))

  -- ---- by the outcome

  of_marked : {c : Option Cross} (one : Bool) → Marked t o c → NoMark (cross_marks i j t o c) (no_mark (cond one touching through) (some_inside t o))
  unfolding cross_marks kind_marks
  of_marked true (both p h k) = full
  of_marked true (on_other p h) = full
  of_marked true (on_target p h) = full
  of_marked false (both p h k) = full
  of_marked false (on_other p h) = full
  of_marked false (on_target p h) = full

  of_outcome : {m : Meeting} {c : Option Cross} → Outcome t o m c → NoMark (cross_marks i j t o c) (no_mark m (some_inside t o))
  unfolding cross_marks kind_marks
  of_outcome overlaid = on_line
  of_outcome nothing = empty
  of_outcome (marked one m) = of_marked one m

  -- THE THEOREM
  pub no_mark_is : (radius : ℕ) → Different t o → (pair_marks radius i j t o ≡ []) ↔ Apart t o
  unfolding unmarked
  no_mark_is radius n = agree (decides (of_outcome (outcome radius t o))) (unmarked? t o ft fo n)
    where
      agree : {P Q : Type 0} {b : Bool} → Decides P b → Decides Q b → P ↔ Q
      agree (yes p) (yes q) = (λ _. q, λ _. p)
      agree (no f) (no g) = (λ p. absurd (f p), λ q. absurd (g q))
