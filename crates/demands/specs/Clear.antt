-- Every mark of a look, by its number: it is no end of the segment of that number, wherever in the list that segment stands.
use Rattle.std.specs.Prelude.{◌≡◌, refl, List, [], ◌∷◌, ◌≢◌, ℕ, suc, ◌<◌, ℤ, pos}
use Rattle.std.proofs.Common.{arith}
use Rattle.geom.specs.declared.Point.{Point}
use Rattle.geom.specs.declared.Segment.{Segment}
use Rattle.plane.specs.NoEnd.{NoEnd}
use Rattle.split.specs.declared.answer.Mark.{Mark}
use Rattle.split.specs.Look.{mark}

-- m against a list whose first segment is number i
pub data Clear : ℕ → List Segment → Mark → Type 0 where
  end : {i : ℕ} {m : Mark} → Clear i [] m
  step : {i : ℕ} {v : Segment} {L : List Segment} {m : Mark} → (m.segment ≡ pos i → NoEnd v m.point) → Clear (suc i) L m → Clear i (v ∷ L) m

pub other-number : (k i : ℕ) (z : ℤ) → k ≢ i → z ≡ pos k → z ≡ pos i → ⊥
other-number k i z n e f = n (cc)

pub past : (i j : ℕ) (p : Point) (L : List Segment) → i < j → Clear j L (mark i p)
past i j p [] h = end
past i j p (v ∷ L) h = step (λ e. absurd (other-number i j (pos i) (λ z. omega arith) refl e)) (past i (suc j) p L (omega arith))
