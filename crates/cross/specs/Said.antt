-- What a crossing answers, in document 01's numbers ("Input and answer", "Crossing"): of any two segments 3 off the grid, then 4 without length, otherwise 0 and how they cross.
use Rattle.std.specs.Prelude.{◌≡◌, refl, Bool, true, false, cond, ◌&&◌, ℕ, ℤ, pos, Option, Some, None, Result, Ok, Err}
use Rattle.std.proofs.Common.{ap, ◌∙◌}
use Rattle.geom.specs.declared.Segment.{Segment}
use Rattle.geom.specs.Plane.{grid_segment}
use Rattle.cross.specs.declared.answer.Kind.{Kind}
use Rattle.cross.specs.declared.answer.Kind.TheVariants.{Pure, TargetEnd, OtherEnd, Overlay}
use Rattle.cross.specs.declared.answer.Cross.{Cross}
use Rattle.cross.specs.declared.answer.CrossError.{CrossError}
use Rattle.cross.specs.declared.answer.CrossError.TheVariants.{OffGrid, NoLength}
use Rattle.cross.specs.Cross.{bit, collinear_mask, crossing, has_length, cross_any}

-- the number of the table; the kind; the point; 1 if it was rounded; which ends mark the other where all lie on one line
pub record Said : Type 0 where
  pub answer : ℕ
  pub kind : ℕ
  pub x : ℤ
  pub y : ℤ
  pub rounded : ℕ
  pub mask : ℕ

-- without a crossing all else is zero
abbrev pub only : ℕ → Said
only k = record { answer = k; kind = 0; x = pos 0; y = pos 0; rounded = 0; mask = 0 }

-- 0 is no crossing
abbrev pub kind_number : Kind → ℕ
kind_number Pure = 1
kind_number TargetEnd = 2
kind_number OtherEnd = 3
kind_number Overlay = 4

abbrev pub mask_of : Kind → ℕ → ℕ
mask_of Pure m = 0
mask_of TargetEnd m = 0
mask_of OtherEnd m = 0
mask_of Overlay m = m

-- number and values of each answer about two segments
abbrev pub cross_says : Segment → Segment → Result (Option Cross) CrossError → Said
cross_says t o (Ok (Some c)) =
    record { answer = 0; kind = kind_number c.kind; x = c.point.x.0; y = c.point.y.0; rounded = bit c.rounded; mask = mask_of c.kind (collinear_mask t o) }
cross_says t o (Ok None) = only 0
cross_says t o (Err OffGrid) = only 3
cross_says t o (Err NoLength) = only 4

unfoldable pub cross_said : ℕ → Segment → Segment → Said
cross_said radius t o =
    let r = cross_says t o (Ok (crossing radius t o)) in
    cond (grid_segment t && grid_segment o) (cond (has_length t && has_length o) r (only 4)) (only 3)

-- the answer, and its numbers
pub also-said : (radius : ℕ) (t o : Segment) (r : Result (Option Cross) CrossError) → r ≡ cross_any radius t o
    → (r ≡ cross_any radius t o) × (cross_says t o r ≡ cross_said radius t o)
unfolding cross_any cross_said
also-said radius t o r e =
    (e, ap (λ (s : Result (Option Cross) CrossError). cross_says t o s) e ∙ by_tests (grid_segment t && grid_segment o) (has_length t && has_length o) (crossing radius t o))
  where
    by_tests : (g l : Bool) (c : Option Cross) → cross_says t o (cond g (cond l (Ok c) (Err NoLength)) (Err OffGrid)) ≡ cond g (cond l (cross_says t o (Ok c)) (only 4)) (only 3)
    by_tests true true c = refl
    by_tests true false c = refl
    by_tests false l c = refl
