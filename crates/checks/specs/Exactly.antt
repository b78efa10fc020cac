-- Refusals 1 to 6 in the words of the table ("Input and answer"), and the theorem: each is given exactly when no earlier one applies and its sentence holds.
use Rattle.std.specs.Prelude.{◌≡◌, refl, Bool, true, false, not, cond, ◌&&◌, List, [], ◌∷◌, ◌↔◌, ◌⊎◌, ℕ, ◌*◌, ◌^◌, ◌<◌, ℤ, pos, neg_ℤ, length, ◌≤ℤ◌, ◌<ℤ◌, Result, Ok, Err}
use Rattle.std.proofs.Common.{ap, subst, ◌∙◌, inl, inr, ⊎_elim}
use Rattle.whole.specs.Kind.{rows_from}
use Rattle.whole.specs.Order.{zz, nlt_in}
use Rattle.whole.specs.Sum.{In, here, there, none}
use Rattle.whole.proofs.SumLaws.{all_in}
use Rattle.geom.specs.declared.Point.{Point}
use Rattle.geom.specs.declared.Segment.{Segment}
use Rattle.geom.specs.Limits.{segment_limit, work_room}
use Rattle.geom.specs.Plane.{Side, subject, clip, count, on_grid, grid_point, grid_segment}
use Rattle.geom.specs.Rows.{segments}
use Rattle.geom.specs.Tests.{Decides, yes, no, holds, fails, said, lt?, same?}
use Rattle.geom.proofs.TestsLaws.{same_point?}
use Rattle.whole.specs.Decide.{or, below?, equal?}
use Rattle.segm.specs.Balance.{balanced, closed}
use Rattle.segm.specs.BalanceLaws.{Uneven, uneven?}
use Rattle.faults.specs.Faults.{some, is_off, is_point, has_least}
use Rattle.outlines.specs.Open.{is_open}
use Rattle.checks.specs.declared.Fault.{Fault}
use Rattle.checks.specs.declared.Fault.TheVariants.{Short, BadSettings, OffGrid, NoLength, BadCount, Open}
use Rattle.checks.specs.declared.Settings.{Settings}
use Rattle.checks.specs.Checks.{is_short, is_bad, fault_of, check_says, check_said}

-- ---- the sentences

-- 1
abbrev pub TooShort : ℕ → ℕ → ℕ → ℕ → Type 0
TooShort n input work masks = ((segment_limit < n) ⊎ (input < 6 * n)) ⊎ ((work_room work < n) ⊎ (masks < work_room work))

-- 2
abbrev pub OutOfRange : Settings → Type 0
OutOfRange s = ((3 < s.fill) ⊎ (6 < s.rule)) ⊎ ((s.budget ≡ 0) ⊎ (64 < s.budget))

-- a segment of the list is so
abbrev pub Has : (Segment → Type 0) → List Segment → Type 0
Has P L = (v : Segment) × In v L × P v

-- 3
abbrev pub Outside : ℤ → Type 0
Outside z = (z <ℤ neg_ℤ (pos (2 ^ 30))) ⊎ (pos (2 ^ 30) ≤ℤ z)

abbrev pub EndOutside : Point → Type 0
EndOutside p = Outside p.x.0 ⊎ Outside p.y.0

abbrev pub CoordinateOutside : Segment → Type 0
CoordinateOutside v = EndOutside v.a ⊎ EndOutside v.b

-- 4
abbrev pub SameEnds : Segment → Type 0
SameEnds v = v.a ≡ v.b

-- 5
abbrev pub CountLeast : Segment → Type 0
CountLeast v = (d : Side) × (count d v ≡ neg_ℤ (pos (2 ^ 31)))

-- 6: for some side there is a point of the plane where the sums differ
abbrev pub OpenOutline : List Segment → Type 0
OpenOutline L = (d : Side) × Uneven (count d) L

-- ---- the order

-- the first of six sentences that holds, by its fault; or that none does
abbrev pub First : Type 0 → Type 0 → Type 0 → Type 0 → Type 0 → Type 0 → Result (Unit {0}) Fault → Type 0
First one two three four five six (Err Short) = one
First one two three four five six (Err BadSettings) = (¬ one) × two
First one two three four five six (Err OffGrid) = (¬ one) × (¬ two) × three
First one two three four five six (Err NoLength) = (¬ one) × (¬ two) × (¬ three) × four
First one two three four five six (Err BadCount) = (¬ one) × (¬ two) × (¬ three) × (¬ four) × five
First one two three four five six (Err Open) = (¬ one) × (¬ two) × (¬ three) × (¬ four) × (¬ five) × six
First one two three four five six (Ok tt) = (¬ one) × (¬ two) × (¬ three) × (¬ four) × (¬ five) × (¬ six)

abbrev pub Given : List ℤ → Settings → ℕ → ℕ → Result (Unit {0}) Fault → Type 0
Given input s work masks =
    let L = rows_from segments input 0 s.n in
    First (TooShort s.n (length input) work masks) (OutOfRange s) (Has CoordinateOutside L) (Has SameEnds L) (Has CountLeast L) (OpenOutline L)

abbrev chosen : Bool → Bool → Bool → Bool → Bool → Bool → Result (Unit {0}) Fault
chosen a b c d e f = cond a (Err Short) (cond b (Err BadSettings) (cond c (Err OffGrid) (cond d (Err NoLength) (cond e (Err BadCount) (cond f (Err Open) (Ok tt))))))

module _ {A B C D E F : Type 0} where
  is_first : {a b c d e f : Bool} → Decides A a → Decides B b → Decides C c → Decides D d → Decides E e → Decides F f → First A B C D E F (chosen a b c d e f)
  is_first (yes p) t u v w x = p
  is_first (no g) (yes p) u v w x = (g, p)
  is_first (no g) (no h) (yes p) v w x = (g, h, p)
  is_first (no g) (no h) (no i) (yes p) w x = (g, h, i, p)
  is_first (no g) (no h) (no i) (no j) (yes p) x = (g, h, i, j, p)
  is_first (no g) (no h) (no i) (no j) (no k) (yes p) = (g, h, i, j, k, p)
  is_first (no g) (no h) (no i) (no j) (no k) (no l) = (g, h, i, j, k, l)

  only-first : {a b c d e f : Bool} → Decides A a → Decides B b → Decides C c → Decides D d → Decides E e → Decides F f → (r : Result (Unit {0}) Fault) → First A B C D E F r → chosen a b c d e f ≡ r
  only-first s t u v w x (Err Short) p = rw (holds s p)
  only-first s t u v w x (Err BadSettings) (g, p) = rw (fails s g, holds t p)
  only-first s t u v w x (Err OffGrid) (g, h, p) = rw (fails s g, fails t h, holds u p)
  only-first s t u v w x (Err NoLength) (g, h, i, p) = rw (fails s g, fails t h, fails u i, holds v p)
  only-first s t u v w x (Err BadCount) (g, h, i, j, p) = rw (fails s g, fails t h, fails u i, fails v j, holds w p)
  only-first s t u v w x (Err Open) (g, h, i, j, k, p) = rw (fails s g, fails t h, fails u i, fails v j, fails w k, holds x p)
  only-first s t u v w x (Ok tt) (g, h, i, j, k, l) = rw (fails s g, fails t h, fails u i, fails v j, fails w k, fails x l)

-- ---- each test decides its sentence

pub short? : (n input work masks : ℕ) → Decides (TooShort n input work masks) (is_short n input work masks)
unfolding is_short
short? n input work masks = or (or (below? segment_limit n) (below? input (6 * n))) (or (below? (work_room work) n) (below? masks (work_room work)))

bad? : (s : Settings) → Decides (OutOfRange s) (is_bad s)
unfolding is_bad
bad? s = or (or (below? 3 s.fill) (below? 6 s.rule)) (or (equal? s.budget 0) (below? 64 s.budget))

pub has? : {P : Segment → Type 0} {fault : Segment → Bool} → ((v : Segment) → Decides (P v) (fault v)) → (L : List Segment) → Decides (Has P L) (some fault L)
unfolding some
has? d [] = no (λ h. all_in {P = λ v. ⊥} h.1 none)
has? {P} d (v ∷ L) = said to from (or (d v) (has? d L))
  where
    to : P v ⊎ Has P L → Has P (v ∷ L)
    to (inl p) = (v, here, p)
    to (inr h) = (h.0, there h.1, h.2)

    from : Has P (v ∷ L) → P v ⊎ Has P L
    from (u, here, p) = inl p
    from (u, there i, p) = inr (u, i, p)

-- either fails where the two together fail
not_both : {P Q : Type 0} (a b : Bool) → Decides P (not a) → Decides Q (not b) → Decides (P ⊎ Q) (not (cond a b false))
not_both true b d e = or d e
not_both false b d e = or d e

not_and : {P Q : Type 0} (a b : Bool) → Decides P (not a) → Decides Q (not b) → Decides (P ⊎ Q) (not (a && b))
not_and true b d e = or d e
not_and false b d e = or d e

outside? : (z : ℤ) → Decides (Outside z) (not (on_grid z))
unfolding on_grid
outside? z = go (lt? z (neg_ℤ (pos (2 ^ 30)))) (lt? z (pos (2 ^ 30)))
  where
    go : {a b : Bool} → Decides (z <ℤ neg_ℤ (pos (2 ^ 30))) a → Decides (z <ℤ pos (2 ^ 30)) b → Decides (Outside z) (not (cond a false b))
    go (yes h) d = yes (inl h)
    go (no f) (yes h) = no (⊎_elim f (λ k. omega (zz, h, k)))
    go (no f) (no g) = yes (inr (omega (zz, nlt_in g)))

end? : (p : Point) → Decides (EndOutside p) (not (grid_point p))
unfolding grid_point
end? p = not_both (on_grid p.x.0) (on_grid p.y.0) (outside? p.x.0) (outside? p.y.0)

pub off? : (v : Segment) → Decides (CoordinateOutside v) (is_off v)
unfolding grid_segment
off? v = not_both (grid_point v.a) (grid_point v.b) (end? v.a) (end? v.b)

point? : (v : Segment) → Decides (SameEnds v) (is_point v)
point? v = same_point? v.a v.b

-- what is so for subject or for clip is so for some side
some_side : {P : Side → Type 0} {t : Bool} → Decides (P subject ⊎ P clip) t → Decides ((d : Side) × P d) t
some_side {P} = said (⊎_elim (λ p. (subject, p)) (λ p. (clip, p))) from
  where
    from : (d : Side) × P d → P subject ⊎ P clip
    from (subject, p) = inl p
    from (clip, p) = inr p

least? : (v : Segment) → Decides (CountLeast v) (has_least v)
least? v = some_side {P = λ d. count d v ≡ neg_ℤ (pos (2 ^ 31))} (or (same? v.subject.0 (neg_ℤ (pos (2 ^ 31)))) (same? v.clip.0 (neg_ℤ (pos (2 ^ 31)))))

open? : (L : List Segment) → Decides (OpenOutline L) (is_open L)
unfolding closed
open? L = some_side {P = λ d. Uneven (count d) L} (not_and (balanced (count subject) L) (balanced (count clip) L) (uneven? (count subject) L) (uneven? (count clip) L))

-- THE THEOREM
pub exactly : (input : List ℤ) (s : Settings) (work masks : ℕ) (f : Result (Unit {0}) Fault) → (fault_of input s work masks ≡ f) ↔ Given input s work masks f
unfolding fault_of
exactly input s work masks f =
    let L = rows_from segments input 0 s.n in
    let one = short? s.n (length input) work masks in (
      λ e. subst (λ g. Given input s work masks g) e (is_first one (bad? s) (has? off? L) (has? point? L) (has? least? L) (open? L)),
      only-first one (bad? s) (has? off? L) (has? point? L) (has? least? L) (open? L) f,
    )

-- ---- in numbers

pub also-said : (input : List ℤ) (s : Settings) (work masks : ℕ) {r : Result (Unit {0}) Fault} → r ≡ fault_of input s work masks → (r ≡ fault_of input s work masks) × (check_says r ≡ check_said input s work masks)
unfolding fault_of check_said
also-said input s work masks e =
    let L = rows_from segments input 0 s.n in
    (e, ap check_says e ∙ by_tests (is_short s.n (length input) work masks) (is_bad s) (some is_off L) (some is_point L) (some has_least L) (is_open L))
  where
    by_tests : (a b c d e f : Bool) → check_says (chosen a b c d e f) ≡ cond a 1 (cond b 2 (cond c 3 (cond d 4 (cond e 5 (cond f 6 0)))))
    by_tests true b c d e f = refl
    by_tests false true c d e f = refl
    by_tests false false true d e f = refl
    by_tests false false false true e f = refl
    by_tests false false false false true f = refl
    by_tests false false false false false true = refl
    by_tests false false false false false false = refl
