-- A mark is a row of three numbers: segment, x, y ("Input and answer").
use Rattle.std.specs.Prelude.{refl, List, [], ◌∷◌, ℕ, ◌+◌, ℤ, pos, get_or}
use Rattle.whole.specs.Kind.{Kind}
use Rattle.whole.proofs.KindLaws.{three-numbered, three-short}
use Rattle.geom.specs.Plane.{point}
use Rattle.split.specs.declared.answer.Mark.{Mark}

abbrev pub numbers : Mark → List ℤ
numbers m = m.segment ∷ m.point.x.0 ∷ m.point.y.0 ∷ []

abbrev pub make : List ℤ → Mark
make l = record { segment = get_or l 0 (pos 0); point = point (get_or l 1 (pos 0)) (get_or l 2 (pos 0)) }

-- the mark whose three numbers start at place k
abbrev pub mark_from : List ℤ → ℕ → Mark
mark_from l k = record { segment = get_or l k (pos 0); point = point (get_or l (k + 1) (pos 0)) (get_or l (k + 2) (pos 0)) }

abbrev pub marks : Kind Mark
marks = record { width = 3; numbers = numbers; make = make; sized = λ m. refl; made = λ m t. refl; numbered = three-numbered; short = three-short (λ a b c. record { segment = a; point = point b c }) }
