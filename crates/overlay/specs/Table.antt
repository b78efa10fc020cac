-- Refusals 7 to 11 in the words of the table ("Input and answer"), each with the proof that the run's test decides it. 1 to 6 stand in checks.
use Rattle.std.specs.Prelude.{◌≡◌, refl, ◌||◌, List, [], ◌∷◌, ◌⊎◌, ℕ, ◌+◌, ◌-◌, ◌^◌, ◌<◌, ltb, ℤ, pos, neg_ℤ, length, ◌<ℤ◌}
use Rattle.std.proofs.Common.{ap, inl, inr, ⊎_elim}
use Rattle.whole.specs.Sum.{keep}
use Rattle.geom.specs.declared.Segment.{Segment}
use Rattle.geom.specs.Plane.{Side, subject, clip, count}
use Rattle.geom.specs.Tests.{Decides, said, lt?}
use Rattle.whole.specs.Decide.{or, below?}
use Rattle.groups.specs.Group.{is_far}
use Rattle.segm.specs.Merge.{groups, any_far, too_big}
use Rattle.split.specs.Look.{look, tidy}
use Rattle.edges.specs.Below.{live}
use Rattle.scan.specs.Masks.{crowded_from, crowded}
use Rattle.faults.specs.Faults.{some}
use Rattle.checks.specs.Exactly.{Has, has?}
use Rattle.overlay.specs.Looks.{radius}

-- ---- 7: one look yields more marks, repeats counted, than mark capacity

abbrev pub MarksOver : ℕ → List Segment → Type 0
MarksOver room L = room < length (look radius L)

pub marks_over? : (room : ℕ) (L : List Segment) → Decides (MarksOver room L) (ltb room (length (look radius L)))
marks_over? room L = below? room (length (look radius L))

-- ---- 8: segments plus distinct marks of a look exceed work capacity

abbrev pub PiecesOver : ℕ → List Segment → Type 0
PiecesOver room L = room < length L + length (tidy (look radius L))

pub pieces_over? : (room : ℕ) (L : List Segment) → Decides (PiecesOver room L) (ltb room (length L + length (tidy (look radius L))))
pieces_over? room L = below? room (length L + length (tidy (look radius L)))

-- ---- 9: the subject or clip total of a group of equal segments leaves ±(2^31 - 1)

abbrev pub Leaves : ℤ → Type 0
Leaves z = (z <ℤ neg_ℤ (pos (2 ^ 31 - 1))) ⊎ (pos (2 ^ 31 - 1) <ℤ z)

abbrev pub TotalLeaves : List Segment → Type 0
TotalLeaves L = Has (λ g. (d : Side) × Leaves (count d g)) (groups L)

leaves? : (z : ℤ) → Decides (Leaves z) (is_far z)
unfolding is_far
leaves? z = or (lt? z (neg_ℤ (pos (2 ^ 31 - 1)))) (lt? (pos (2 ^ 31 - 1)) z)

either_side? : (g : Segment) → Decides ((d : Side) × Leaves (count d g)) (is_far g.subject.0 || is_far g.clip.0)
either_side? g = said (⊎_elim (λ p. (subject, p)) (λ p. (clip, p))) (λ h. by h.0 h.1) (or (leaves? g.subject.0) (leaves? g.clip.0))
  where
    by : (d : Side) → Leaves (count d g) → Leaves g.subject.0 ⊎ Leaves g.clip.0
    by subject p = inl p
    by clip p = inr p

any_far_lem : (L : List Segment) → any_far L ≡ some (λ g. is_far g.subject.0 || is_far g.clip.0) L
unfolding any_far some
any_far_lem [] = refl
any_far_lem (g ∷ L) = ap (λ t. (is_far g.subject.0 || is_far g.clip.0) || t) (any_far_lem L)

pub total_leaves? : (L : List Segment) → Decides (TotalLeaves L) (too_big L)
total_leaves? L = rw (any_far_lem (groups L)) (has? either_side? (groups L))

-- ---- 10: the last look allowed still yields marks

abbrev pub StillMarks : List Segment → Type 0
StillMarks L = 0 < length (look radius L)

pub still_marks? : (L : List Segment) → Decides (StillMarks L) (ltb 0 (length (look radius L)))
still_marks? L = below? 0 (length (look radius L))

-- ---- 11: live segments exceed scan capacity after some node

abbrev pub TooManyLive : ℕ → List Segment → Type 0
TooManyLive room L = Has (λ e. room < length (keep (live e.a) L)) L

some-crowded : (room : ℕ) (L K : List Segment) → crowded_from room L K ≡ some (λ e. ltb room (length (keep (live e.a) L))) K
unfolding crowded_from some
some-crowded room L [] = refl
some-crowded room L (e ∷ K) = ap (λ t. ltb room (length (keep (live e.a) L)) || t) (some-crowded room L K)

pub too_many_live? : (room : ℕ) (L : List Segment) → Decides (TooManyLive room L) (crowded room L)
too_many_live? room L = rw (some-crowded room L L) (has? (λ e. below? room (length (keep (live e.a) L))) L)
