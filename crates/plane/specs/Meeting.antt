-- What the four signs make of a pair, said as document 01 says it, by counting zeros ("Crossing"); and what each answer says of the four turns.
use Rattle.std.specs.Prelude.{◌≡◌, Bool, cond, ◌||◌, ◌⊎◌, ℕ, ◌+◌, ◌%◌, eqb, ltb, ℤ, pos, ◌<ℤ◌}
use Rattle.geom.specs.declared.Segment.{Segment}
use Rattle.geom.specs.Plane.{side_of}
use Rattle.plane.specs.Apart.{OneZero, o₁, o₂, Apart}

pub data Meeting : Type 0 where
  collinear none touching crossing : Meeting

-- all zero: collinear. More than one zero, or equal signs in either couple: none. One zero: an end lies inside the other segment. No zero: a middle crossing
abbrev pub by_count : ℕ → Bool → Meeting
by_count zeros equal = cond (eqb zeros 4) collinear (cond (ltb 1 zeros || equal) none (cond (eqb zeros 1) touching crossing))

-- a sign is 0, 1 or 2, and 1 for zero
unfoldable pub meeting_by : ℕ → ℕ → ℕ → ℕ → Meeting
meeting_by s1 s2 s3 s4 = by_count (s1 % 2 + s2 % 2 + s3 % 2 + s4 % 2) (eqb s1 s2 || eqb s3 s4)

-- f's ends against the line of e, e's ends against the line of f
abbrev pub meeting : Segment → Segment → Meeting
meeting e f = meeting_by (side_of e.a e.b f.a) (side_of e.a e.b f.b) (side_of f.a f.b e.a) (side_of f.a f.b e.b)

-- ---- the sign of a number
pub data Sign (o : ℤ) : ℕ → Type 0 where
  under : o <ℤ pos 0 → Sign o 0
  level : o ≡ pos 0 → Sign o 1
  over : pos 0 <ℤ o → Sign o 2

-- ---- a couple of turns, by its zeros and whether its signs are equal
-- on both sides of the line
abbrev pub Parted : ℤ → ℤ → Type 0
Parted o r = ((o <ℤ pos 0) × (pos 0 <ℤ r)) ⊎ ((pos 0 <ℤ o) × (r <ℤ pos 0))

-- ---- what each answer says of the four turns
pub data Case (e f : Segment) : Meeting → Type 0 where
  all_zero : o₁ e f ≡ pos 0 → o₂ e f ≡ pos 0 → o₁ f e ≡ pos 0 → o₂ f e ≡ pos 0 → Case e f collinear
  clear : Apart e f → Case e f none
  end_of_f : OneZero (o₁ e f) (o₂ e f) → Parted (o₁ f e) (o₂ f e) → Case e f touching
  end_of_e : Parted (o₁ e f) (o₂ e f) → OneZero (o₁ f e) (o₂ f e) → Case e f touching
  through : Parted (o₁ e f) (o₂ e f) → Parted (o₁ f e) (o₂ f e) → Case e f crossing
