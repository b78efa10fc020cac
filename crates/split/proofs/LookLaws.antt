-- What is true of every look ("Crossing"): each mark names a segment of the list, at a point on the grid that is no end of it; and forward segments of which no
-- two are equal yield no mark exactly if every two are `Apart`: no mark, settled.
use Rattle.std.specs.Prelude.{◌≡◌, refl, ◌↔◌, ℕ, suc, ◌+◌, length}
use mathlib.Core.List.{List, [], ◌∷◌, ◌++◌}
use Rattle.std.proofs.Common.{arith}
use Rattle.whole.specs.Sum.{All, none, also, Pairs, no_pair, pair}
use Rattle.whole.proofs.SumLaws.{all_map, all_append}
use Rattle.geom.specs.declared.Point.{Point}
use Rattle.geom.specs.declared.Segment.{Segment}
use Rattle.geom.specs.Plane.{GridPoint, GridSegment}
use Rattle.plane.specs.Apart.{Apart}
use Rattle.plane.specs.NoEnd.{NoEnd}
use Rattle.plane.specs.Pierce.{Different}
use Rattle.split.specs.declared.answer.Mark.{Mark}
use Rattle.split.specs.Look.{mark, pair_marks, marks_with, look_from, look}
use Rattle.split.specs.NoEnd.{MarkOf, of_target, of_other}
use Rattle.split.proofs.NoEndLaws.{marks_no_end, mark_on_grid}
use Rattle.split.specs.Unmarked.{no_mark_is}
use Rattle.split.specs.LookLaws.{Cuts, Forward, Number, here, there}

pub cut_on_grid : {i : ℕ} {L : List Segment} {m : Mark} → Cuts i L m → GridPoint m.point
cut_on_grid (here g h) = g
cut_on_grid (there c) = cut_on_grid c

pub cut-number : {i : ℕ} {L : List Segment} {m : Mark} → Cuts i L m → Number i (length L) m
cut-number {i} (here g h) = let e : i + 0 ≡ i = omega arith in record { k = 0; below = omega arith; is = rw e }
cut-number {i} (there c) =
    let r = cut-number c in
    let e : i + suc r.k ≡ suc i + r.k = omega arith in
    record { k = suc r.k; below = omega (arith, r.below); is = rw e r.is }

module _ (radius : ℕ) where
  -- what holds of the target's marks and of the others' holds of all
  with_others_lem : (P : Mark → Type 0) (i : ℕ) (t : Segment) (j : ℕ) (K : List Segment) → GridSegment t → All GridSegment K
      → ((p : Point) → GridPoint p → NoEnd t p → P (mark i p)) → ((m : Mark) → Cuts j K m → P m) → All P (marks_with radius i t j K)
  unfolding marks_with
  with_others_lem P i t j [] gt gs f g = none
  with_others_lem P i t j (o ∷ K) gt (also go gs) f g =
      all_append (all_map (λ m c. of_either m c (mark_on_grid gt go c)) (marks_no_end i j t o radius)) (with_others_lem P i t (suc j) K gt gs f (λ m c. g m (there c)))
    where
      of_either : (m : Mark) → MarkOf i j t o m → GridPoint m.point → P m
      of_either m (of_target {p = p} l h) q = f p q h
      of_either m (of_other {p = p} l h) q = g (mark j p) (here q h)

  cuts_from : (i : ℕ) (L : List Segment) → All GridSegment L → All (Cuts i L) (look_from radius i L)
  unfolding look_from
  cuts_from i [] gs = none
  cuts_from i (t ∷ L) (also g gs) =
      all_append (with_others_lem (Cuts i (t ∷ L)) i t (suc i) L g gs (λ p q h. here q h) (λ m c. there c)) (all_map (λ m c. there c) (cuts_from (suc i) L gs))

  pub look_cuts : (L : List Segment) → All GridSegment L → All (Cuts 0 L) (look radius L)
  look_cuts L gs = cuts_from 0 L gs

both-empty : {A : Type 0} (xs ys : List A) → xs ++ ys ≡ [] → (xs ≡ []) × (ys ≡ [])
both-empty [] ys e = (refl, e)
both-empty (x ∷ xs) ys e = let z : ◌≡◌ {A = ℕ} 0 1 = cc in absurd (omega arith)

module _ (radius : ℕ) where
  apart_others : (i : ℕ) (t : Segment) (j : ℕ) (K : List Segment) → Forward t → All Forward K → All (Different t) K
      → (marks_with radius i t j K ≡ []) ↔ All (Apart t) K
  unfolding marks_with
  apart_others i t j [] ft fs ds = (λ e. none, λ a. refl)
  apart_others i t j (o ∷ K) ft (also fo fs) (also d ds) =
      let one = no_mark_is i j t o ft fo radius d in
      let more = apart_others i t (suc j) K ft fs ds in
      (λ e. let b = both-empty (pair_marks radius i j t o) (marks_with radius i t (suc j) K) e in also (one.0 b.0) (more.0 b.1), back one more)
    where
      back : (pair_marks radius i j t o ≡ []) ↔ Apart t o → (marks_with radius i t (suc j) K ≡ []) ↔ All (Apart t) K
          → All (Apart t) (o ∷ K) → pair_marks radius i j t o ++ marks_with radius i t (suc j) K ≡ []
      back one more (also a rest) = rw (one.1 a, more.1 rest)

  apart_from : (i : ℕ) (L : List Segment) → All Forward L → Pairs Different L → (look_from radius i L ≡ []) ↔ Pairs Apart L
  unfolding look_from
  apart_from i [] fs ds = (λ e. no_pair, λ a. refl)
  apart_from i (t ∷ L) (also f fs) (pair d ds) =
      let first = apart_others i t (suc i) L f fs d in
      let rest = apart_from (suc i) L fs ds in
      (λ e. let b = both-empty (marks_with radius i t (suc i) L) (look_from radius (suc i) L) e in pair (first.0 b.0) (rest.0 b.1), back first rest)
    where
      back : (marks_with radius i t (suc i) L ≡ []) ↔ All (Apart t) L → (look_from radius (suc i) L ≡ []) ↔ Pairs Apart L
          → Pairs Apart (t ∷ L) → marks_with radius i t (suc i) L ++ look_from radius (suc i) L ≡ []
      back first rest (pair a later) = rw (first.1 a, rest.1 later)

  pub look-settled : (L : List Segment) → All Forward L → Pairs Different L → (look radius L ≡ []) ↔ Pairs Apart L
  look-settled L fs ds = apart_from 0 L fs ds
