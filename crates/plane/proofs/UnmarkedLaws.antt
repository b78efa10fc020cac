-- Document 01's answer to a pair: does a look yield no mark ("Crossing", "Collinear")? For different segments that is `Apart`.
use Rattle.std.specs.Prelude.{◌↔◌, ◌≡◌, T, pos}
use Rattle.std.proofs.Common.{inl, inr, ⊎_elim}
use Rattle.geom.specs.declared.Point.{Point}
use Rattle.geom.specs.declared.Segment.{Segment}
use Rattle.geom.specs.Plane.{Before}
use Rattle.geom.specs.Tests.{Decides, yes, no, said}
use Rattle.geom.proofs.TestsLaws.{between?}
use Rattle.whole.specs.Decide.{or, opposite, test_is}
use Rattle.plane.specs.Apart.{Apart, o₁, o₂}
use Rattle.plane.specs.Meeting.{Meeting, Case, all_zero, clear, end_of_f, end_of_e, through}
use Rattle.plane.proofs.MeetingLaws.{case}
use Rattle.plane.specs.Pierce.{Inside, Touch, a_of_f, b_of_f, a_of_e, b_of_e, Different}
use Rattle.plane.proofs.PierceLaws.{touch_sym, touched, crossed, lined_up}
use Rattle.plane.proofs.ExactlyLaws.{touch_meets, cross_meets, not_both}
use Rattle.plane.specs.Unmarked.{SomeInside, inside, no_mark, some_inside, unmarked}

-- ---- the tests decide
pub inside? : (e : Segment) (p : Point) → Decides (Inside e p) (inside e p)
inside? e p = said (λ h. record { after = h.0; ahead = h.1 }) (λ i. (i.after, i.ahead)) (between? e.a p e.b)

pub some_inside? : (e f : Segment) → Decides (SomeInside e f) (some_inside e f)
some_inside? e f = or (or (inside? e f.a) (inside? e f.b)) (or (inside? f e.a) (inside? f e.b))

touch-inside : {e f : Segment} → Touch e f → SomeInside e f
touch-inside (a_of_f z i) = inl (inl i)
touch-inside (b_of_f z i) = inl (inr i)
touch-inside (a_of_e z i) = inr (inl i)
touch-inside (b_of_e z i) = inr (inr i)

-- ---- turned, different segments
module _ (e f : Segment) (be : Before e.a e.b) (bf : Before f.a f.b) where
  not_touched : Apart e f → ¬ Touch e f
  not_touched h t = not_both e f be bf h (touch_meets e f be bf t)

  -- on one line, apart exactly if no end lies inside the other
  pub collinear_apart : Different e f → o₁ e f ≡ pos 0 → o₂ e f ≡ pos 0 → o₁ f e ≡ pos 0 → o₂ f e ≡ pos 0 → (¬ SomeInside e f) ↔ Apart e f
  collinear_apart ne h1 h2 h3 h4 = (λ n. ⊎_elim (λ a. a) (λ t. absurd (n (touch-inside t))) (lined_up e f be bf ne h1 h2 h3 h4), λ h s. not_touched h (touch s))
    where
      touch : SomeInside e f → Touch e f
      touch (inl (inl i)) = a_of_f h1 i
      touch (inl (inr i)) = b_of_f h2 i
      touch (inr (inl i)) = a_of_e h3 i
      touch (inr (inr i)) = b_of_e h4 i

  -- THE THEOREM: no mark exactly if apart
  pub unmarked? : Different e f → Decides (Apart e f) (unmarked e f)
  unfolding unmarked
  unmarked? ne = go (case e f be bf)
    where
      go : {m : Meeting} → Case e f m → Decides (Apart e f) (no_mark m (some_inside e f))
      go (all_zero h1 h2 h3 h4) = let c = collinear_apart ne h1 h2 h3 h4 in said c.0 c.1 (opposite (some_inside? e f))
      go (clear h) = yes h
      go (end_of_f o t) = no (λ h. not_touched h (touched e f be bf o t))
      go (end_of_e t o) = no (λ h. not_touched h (touch_sym (touched f e bf be o t)))
      go (through s t) = no (λ h. not_both e f be bf h (cross_meets e f be bf (crossed e f s t)))

  pub unmarked_is : Different e f → T (unmarked e f) ↔ Apart e f
  unmarked_is ne = test_is (unmarked? ne)
