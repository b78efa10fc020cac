-- The whole outcome of a run: the number of the answer, m and looks, and what every lent list then holds ("Input and answer").
use Rattle.std.specs.Prelude.{cond, Ok, Err, Result, List, ◌++◌, ℕ, ℤ, pos, length, drop, replicate}
use Rattle.whole.specs.Kind.{rows_from, front}
use Rattle.geom.specs.declared.Segment.{Segment}
use Rattle.geom.specs.Limits.{work_room, mark_room, scan_room}
use Rattle.geom.specs.Rows.{segments}
use Rattle.scan.specs.Masks.{bytes, crowded}
use Rattle.checks.specs.declared.Settings.{Settings}
use Rattle.checks.specs.declared.Fault.{Fault}
use Rattle.checks.specs.Checks.{fault_of}
use Rattle.overlay.specs.declared.answer.Refusal.{Refusal}
use Rattle.overlay.specs.declared.answer.Refusal.TheVariants.{ScanFull}
use Rattle.overlay.specs.Numbers.{Told, told, answer0, refusal_of}
use Rattle.overlay.specs.Looks.{Ran, settled, refused, ran}

-- the lists that are lent to be written
pub record Lent : Type 0 where
  pub work : List ℤ
  pub marks : List ℤ
  pub scan : List ℤ
  pub masks : List ℕ

pub record Outcome : Type 0 where
  pub answer : Told
  pub lists : Lent

-- 1 to 6 change nothing
abbrev pub unchanged : Lent → Refusal → Outcome
unchanged l r = record { answer = told (Err r); lists = l }

abbrev pub zeros : List ℤ → List ℤ
zeros xs = replicate (length xs) (pos 0)

abbrev pub no_masks : List ℕ → List ℕ
no_masks ms = replicate (length ms) 0

abbrev pub all_zero : Lent → Lent
all_zero l = record { work = zeros l.work; marks = zeros l.marks; scan = zeros l.scan; masks = no_masks l.masks }

-- 7 to 11 set every list wholly to zero
abbrev pub cleared : Lent → Refusal → Outcome
cleared l r = record { answer = told (Err r); lists = all_zero l }

-- 0: the segments and then zeros, their bytes and then zeros, marks and scan all zero
unfoldable pub finished : Settings → Lent → List Segment → ℕ → Outcome
finished s l L looks =
    record {
      answer = answer0 (length L) looks;
      lists = record {
        work = front segments (zeros l.work) L;
        marks = zeros l.marks;
        scan = zeros l.scan;
        masks = bytes s.fill s.rule L ++ drop (length L) (no_masks l.masks);
      };
    }

-- the sweep of a settled list: 11 where some node has too many live segments
unfoldable pub swept : Settings → Lent → Ran → Outcome
swept s l (refused r) = cleared l r
swept s l (settled L looks) = let r = finished s l L looks in cond (crowded (scan_room (length l.scan)) L) (cleared l ScanFull) r

-- a fault of the input, or else what the run comes to
unfoldable pub unless : Result (Unit {0}) Fault → Lent → Outcome → Outcome
unless (Ok tt) l r = r
unless (Err f) l r = unchanged l (refusal_of f)

-- 1 to 6 in order, then the run
unfoldable pub outcome : List ℤ → Settings → Lent → Outcome
outcome input s l =
    let L = rows_from segments input 0 s.n in
    let r = swept s l (ran (mark_room (length l.marks)) (work_room (length l.work)) s.budget L) in
    unless (fault_of input s (length l.work) (length l.masks)) l r
