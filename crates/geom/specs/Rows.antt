-- A segment is a row of six numbers: a.x, a.y, b.x, b.y, subject count, clip count ("Input and answer").
use Rattle.std.specs.Prelude.{◌≡◌, refl, List, [], ◌∷◌, ℕ, ◌+◌, ◌≤◌, ℤ, pos, length, get_or, set, take}
use Rattle.std.proofs.Common.{arith}
use Rattle.whole.specs.Kind.{Kind}
use Rattle.geom.specs.declared.Point.{Point}
use Rattle.geom.specs.declared.Segment.{Segment}
use Rattle.geom.specs.Plane.{point, segment}

-- the point whose two numbers start at place k
abbrev pub point_from : List ℤ → ℕ → Point
point_from l k = point (get_or l k (pos 0)) (get_or l (k + 1) (pos 0))

-- the list with two numbers stored from place k on
abbrev pub two : List ℤ → ℕ → ℤ → ℤ → List ℤ
two l k x y = set (set l k x) (k + 1) y

abbrev pub numbers : Segment → List ℤ
numbers v = v.a.x.0 ∷ v.a.y.0 ∷ v.b.x.0 ∷ v.b.y.0 ∷ v.subject.0 ∷ v.clip.0 ∷ []

abbrev pub make : List ℤ → Segment
make l =
    segment (point (get_or l 0 (pos 0)) (get_or l 1 (pos 0))) (point (get_or l 2 (pos 0)) (get_or l 3 (pos 0))) (get_or l 4 (pos 0)) (get_or l 5 (pos 0))

pub numbered : (l : List ℤ) → 6 ≤ length l → numbers (make l) ≡ take 6 l
numbered [] h = absurd (omega arith)
numbered (a ∷ []) h = absurd (omega arith)
numbered (a ∷ b ∷ []) h = absurd (omega arith)
numbered (a ∷ b ∷ c ∷ []) h = absurd (omega arith)
numbered (a ∷ b ∷ c ∷ d ∷ []) h = absurd (omega arith)
numbered (a ∷ b ∷ c ∷ d ∷ e ∷ []) h = absurd (omega arith)
numbered (a ∷ b ∷ c ∷ d ∷ e ∷ f ∷ t) h = refl

pub short : (l : List ℤ) → make (take 6 l) ≡ make l
short [] = refl
short (a ∷ []) = refl
short (a ∷ b ∷ []) = refl
short (a ∷ b ∷ c ∷ []) = refl
short (a ∷ b ∷ c ∷ d ∷ []) = refl
short (a ∷ b ∷ c ∷ d ∷ e ∷ []) = refl
short (a ∷ b ∷ c ∷ d ∷ e ∷ f ∷ t) = refl

abbrev pub segments : Kind Segment
segments = record { width = 6; numbers = numbers; make = make; sized = λ v. refl; made = λ v t. refl; numbered = numbered; short = short }
