-- What an input without a fault has: the table's sentences, none of which holds, said the other way round.
use Rattle.std.specs.Prelude.{◌≡◌, false, List, ℕ, ◌*◌, ◌^◌, ◌<◌, ◌≤◌, ℤ, pos, neg_ℤ, length, Ok}
use Rattle.std.proofs.Common.{inl, inr, arith}
use Rattle.std.proofs.lemmas.Bool.{not-false}
use Rattle.whole.specs.Kind.{rows_from}
use Rattle.whole.specs.Sum.{All}
use Rattle.whole.proofs.SumLaws.{all_map, all_by}
use Rattle.whole.proofs.TestLaws.{of_true}
use Rattle.geom.specs.declared.Segment.{Segment}
use Rattle.geom.specs.Limits.{segment_limit, work_room}
use Rattle.geom.specs.Plane.{Side, count, GridSegment}
use Rattle.geom.specs.Rows.{segments}
use Rattle.geom.specs.Tests.{fails, when_true, when_false}
use Rattle.geom.proofs.TestsLaws.{grid_segment?}
use Rattle.segm.specs.Balance.{Balanced, balanced}
use Rattle.segm.specs.BalanceLaws.{uneven?, balanced_test}
use Rattle.faults.specs.Faults.{some, is_off}
use Rattle.checks.specs.declared.Settings.{Settings}
use Rattle.checks.specs.Checks.{is_short, fault_of}
use Rattle.checks.specs.Exactly.{TooShort, OutOfRange, Has, OpenOutline, CoordinateOutside, short?, has?, off?, exactly}

-- 1
pub record Roomy (n input work masks : ℕ) : Type 0 where
  pub limited : n ≤ segment_limit
  pub rows : 6 * n ≤ input
  pub room : n ≤ work_room work
  pub bytes : work_room work ≤ masks

-- 2
pub record InRange (s : Settings) : Type 0 where
  pub fill : s.fill ≤ 3
  pub rule : s.rule ≤ 6
  pub some_look : 0 < s.budget
  pub looks : s.budget ≤ 64

pub record Accepted (input : List ℤ) (s : Settings) (work masks : ℕ) : Type 0 where
  pub roomy : Roomy s.n (length input) work masks
  pub in_range : InRange s
  pub grid : All GridSegment (rows_from segments input 0 s.n)
  pub long : All (λ v. v.a ≡ v.b → ⊥) (rows_from segments input 0 s.n)
  pub counts : All (λ v. (d : Side) → count d v ≡ neg_ℤ (pos (2 ^ 31)) → ⊥) (rows_from segments input 0 s.n)
  pub balanced : (d : Side) → Balanced (count d) (rows_from segments input 0 s.n)

at_most : {m n : ℕ} → (n < m → ⊥) → m ≤ n
at_most f = omega arith

has_room : {n input work masks : ℕ} → (TooShort n input work masks → ⊥) → Roomy n input work masks
has_room f =
    record {
      limited = at_most (λ h. f (inl (inl h)));
      rows = at_most (λ h. f (inl (inr h)));
      room = at_most (λ h. f (inr (inl h)));
      bytes = at_most (λ h. f (inr (inr h)));
    }

pub roomy_when : (n input work masks : ℕ) → is_short n input work masks ≡ false → Roomy n input work masks
roomy_when n input work masks e = has_room (when_false (short? n input work masks) e)

is_in_range : {s : Settings} → (OutOfRange s → ⊥) → InRange s
is_in_range {s} f =
    let b : s.budget ≡ 0 → ⊥ = λ h. f (inr (inl h)) in
    record {
      fill = at_most (λ h. f (inl (inl h)));
      rule = at_most (λ h. f (inl (inr h)));
      some_look = omega arith;
      looks = at_most (λ h. f (inr (inr h)));
    }

all_not : {P : Segment → Type 0} (L : List Segment) → (Has P L → ⊥) → All (λ v. P v → ⊥) L
all_not L f = all_by L (λ v i p. f (v, i, p))

on_grid_lem : (v : Segment) → (CoordinateOutside v → ⊥) → GridSegment v
on_grid_lem v f = when_true (grid_segment? v) (not-false _ (fails (off? v) f))

-- what no segment off the grid says of each
pub all_on_grid : (L : List Segment) → some is_off L ≡ false → All GridSegment L
all_on_grid L e = all_map on_grid_lem (all_not L (when_false (has? off? L) e))

is_balanced : (L : List Segment) → (OpenOutline L → ⊥) → (d : Side) → Balanced (count d) L
is_balanced L f d = (balanced_test (count d) L).0 (of_true (not-false (balanced (count d) L) (fails (uneven? (count d) L) (λ u. f (d, u)))))

pub accepted : (input : List ℤ) (s : Settings) (work masks : ℕ) → fault_of input s work masks ≡ Ok tt → Accepted input s work masks
accepted input s work masks e =
    let L = rows_from segments input 0 s.n in
    let n = (exactly input s work masks (Ok tt)).0 e in
    record {
      roomy = has_room n.0;
      in_range = is_in_range n.1;
      grid = all_map on_grid_lem (all_not L n.2);
      long = all_not L n.3;
      counts = all_map (λ v f d h. f (d, h)) (all_not L n.4);
      balanced = is_balanced L n.5;
    }
