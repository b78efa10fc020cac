-- Segments that are apart: a look at the pair yields no mark ("Crossing"), said by the signs of the four turns and, on one line, by the order of points.
-- It is symmetric, and `apart` decides it.
use Rattle.std.specs.Prelude.{◌≡◌, Bool, not, ◌&&◌, ◌||◌, ◌⊎◌, ◌↔◌, ◌≢◌, T, ℤ, pos, ◌<ℤ◌}
use Rattle.std.proofs.Common.{inl, inr}
use Rattle.std.specs.Int.Signed.{lt_z}
use Rattle.geom.specs.declared.Point.{Point}
use Rattle.geom.specs.declared.Segment.{Segment}
use Rattle.geom.specs.Plane.{Before, before, sameZ, same_point, against}
use Rattle.geom.specs.Tests.{Decides, said, and, lt?, same?}
use Rattle.geom.proofs.TestsLaws.{before?, same_point?}
use Rattle.whole.specs.Decide.{or, opposite, test_is}

-- p comes before q or is q
abbrev pub UpTo : Point → Point → Type 0
UpTo p q = (p ≡ q) ⊎ Before p q

-- of two turns: both over 0, or both under
abbrev pub OneSide : ℤ → ℤ → Type 0
OneSide o r = ((pos 0 <ℤ o) × (pos 0 <ℤ r)) ⊎ ((o <ℤ pos 0) × (r <ℤ pos 0))

-- of two turns: just one is zero
abbrev pub OneZero : ℤ → ℤ → Type 0
OneZero o r = ((o ≡ pos 0) × (r ≢ pos 0)) ⊎ ((o ≢ pos 0) × (r ≡ pos 0))

-- f's ends against the line of e
abbrev pub o₁ : Segment → Segment → ℤ
o₁ e f = against e f.a

abbrev pub o₂ : Segment → Segment → ℤ
o₂ e f = against e f.b

-- all on one line, one up to the start of the other; one wholly beside the other's line; each with one end on the other's line
pub data Apart (e f : Segment) : Type 0 where
  in_line_lem : o₁ e f ≡ pos 0 → o₂ e f ≡ pos 0 → o₁ f e ≡ pos 0 → o₂ f e ≡ pos 0 → UpTo e.b f.a ⊎ UpTo f.b e.a → Apart e f
  off_e : OneSide (o₁ e f) (o₂ e f) → Apart e f
  off_f : OneSide (o₁ f e) (o₂ f e) → Apart e f
  at_ends : OneZero (o₁ e f) (o₂ e f) → OneZero (o₁ f e) (o₂ f e) → Apart e f

flip : {A B : Type 0} → A ⊎ B → B ⊎ A
flip (inl a) = inr a
flip (inr b) = inl b

pub apart_sym : {e f : Segment} → Apart e f → Apart f e
apart_sym (in_line_lem p q r s h) = in_line_lem r s p q (flip h)
apart_sym (off_e h) = off_f h
apart_sym (off_f h) = off_e h
apart_sym (at_ends h k) = at_ends k h

-- ---- the test
abbrev up_to : Point → Point → Bool
up_to p q = same_point p q || before p q

abbrev one_side : ℤ → ℤ → Bool
one_side o r = (lt_z (pos 0) o && lt_z (pos 0) r) || (lt_z o (pos 0) && lt_z r (pos 0))

abbrev one_zero : ℤ → ℤ → Bool
one_zero o r = (sameZ o (pos 0) && not (sameZ r (pos 0))) || (not (sameZ o (pos 0)) && sameZ r (pos 0))

abbrev zeros : ℤ → ℤ → Bool
zeros o r = sameZ o (pos 0) && sameZ r (pos 0)

abbrev in_line : Segment → Segment → Bool
in_line e f = (zeros (o₁ e f) (o₂ e f) && zeros (o₁ f e) (o₂ f e)) && (up_to e.b f.a || up_to f.b e.a)

unfoldable pub apart : Segment → Segment → Bool
apart e f = (in_line e f || (one_zero (o₁ e f) (o₂ e f) && one_zero (o₁ f e) (o₂ f e))) || (one_side (o₁ e f) (o₂ e f) || one_side (o₁ f e) (o₂ f e))

up_to? : (p q : Point) → Decides (UpTo p q) (up_to p q)
up_to? p q = or (same_point? p q) (before? p q)

module _ (o r : ℤ) where
  one_side? : Decides (OneSide o r) (one_side o r)
  one_side? = or (and (lt? (pos 0) o) (lt? (pos 0) r)) (and (lt? o (pos 0)) (lt? r (pos 0)))

  one_zero? : Decides (OneZero o r) (one_zero o r)
  one_zero? = or (and (same? o (pos 0)) (opposite (same? r (pos 0)))) (and (opposite (same? o (pos 0))) (same? r (pos 0)))

  zeros? : Decides ((o ≡ pos 0) × (r ≡ pos 0)) (zeros o r)
  zeros? = and (same? o (pos 0)) (same? r (pos 0))

module _ (e f : Segment) where
  abbrev InLine : Type 0
  InLine = (((o₁ e f ≡ pos 0) × (o₂ e f ≡ pos 0)) × ((o₁ f e ≡ pos 0) × (o₂ f e ≡ pos 0))) × (UpTo e.b f.a ⊎ UpTo f.b e.a)

  in_line? : Decides InLine (in_line e f)
  in_line? = and (and (zeros? (o₁ e f) (o₂ e f)) (zeros? (o₁ f e) (o₂ f e))) (or (up_to? e.b f.a) (up_to? f.b e.a))

  abbrev Cases : Type 0
  Cases = (InLine ⊎ (OneZero (o₁ e f) (o₂ e f) × OneZero (o₁ f e) (o₂ f e))) ⊎ (OneSide (o₁ e f) (o₂ e f) ⊎ OneSide (o₁ f e) (o₂ f e))

  from_cases : Cases → Apart e f
  from_cases (inl (inl h)) = in_line_lem h.0.0.0 h.0.0.1 h.0.1.0 h.0.1.1 h.1
  from_cases (inl (inr h)) = at_ends h.0 h.1
  from_cases (inr (inl h)) = off_e h
  from_cases (inr (inr h)) = off_f h

  to_cases : Apart e f → Cases
  to_cases (in_line_lem p q r s h) = inl (inl (((p, q), (r, s)), h))
  to_cases (at_ends h k) = inl (inr (h, k))
  to_cases (off_e h) = inr (inl h)
  to_cases (off_f h) = inr (inr h)

  pub apart? : Decides (Apart e f) (apart e f)
  unfolding apart
  apart? = said from_cases to_cases
      (or (or in_line? (and (one_zero? (o₁ e f) (o₂ e f)) (one_zero? (o₁ f e) (o₂ f e)))) (or (one_side? (o₁ e f) (o₂ e f)) (one_side? (o₁ f e) (o₂ f e))))

  pub apart_is : T (apart e f) ↔ Apart e f
  apart_is = test_is apart?
