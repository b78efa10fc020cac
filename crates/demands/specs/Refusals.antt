-- Which number a run answers: document 01's table ("Input and answer"). 1 to 6 in their order; 7 to 11 as the run meets them. `exactly` says of every number that it is
-- answered exactly when no sentence tested before its own holds and its own does.
use Rattle.std.specs.Prelude.{◌≡◌, List, map, ◌≢◌, ℤ, length, Result, Ok, Err}
use Prim.Native.Nat.{ℕ, suc, ◌-◌}
use Rattle.whole.specs.Kind.{rows_from}
use Rattle.geom.specs.declared.Segment.{Segment}
use Rattle.geom.specs.Limits.{work_room, mark_room, scan_room}
use Rattle.geom.specs.Rows.{segments}
use Rattle.segm.specs.Forward.{forward, sorted}
use Rattle.checks.specs.declared.Settings.{Settings}
use Rattle.checks.specs.declared.Fault.{Fault}
use Rattle.checks.specs.Checks.{check_says}
use Rattle.checks.specs.Exactly.{Given}
use Rattle.overlay.specs.Outcome.{Lent}
use Rattle.overlay.specs.Table.{MarksOver, PiecesOver, TotalLeaves, StillMarks, TooManyLive}
use Rattle.demands.specs.Chain.{start, cut, next}

-- ---- the table

-- a look at L that yields marks, and after which the run goes on with the next list
pub record GoesOn (marks work : ℕ) (L : List Segment) : Type 0 where
  pub yields : StillMarks L
  pub not_7 : ¬ MarksOver marks L
  pub not_8 : ¬ PiecesOver work L
  pub not_9 : ¬ TotalLeaves (sorted (cut L))

-- the run comes from a look at L, with so many allowed after it, to a look at K, with so many allowed after that
pub data Comes (marks work : ℕ) : ℕ → List Segment → ℕ → List Segment → Type 0 where
  here : {left : ℕ} {L : List Segment} → Comes marks work left L left L
  on : {left rest : ℕ} {L K : List Segment} → GoesOn marks work L → Comes marks work left (next L) rest K → Comes marks work (suc left) L rest K

-- the number that is met at a look at L, with so many allowed after it: 7 first, on the last look 10 then, else 8 and 9; a list that yields no marks is swept: 11 or 0
pub data Met (marks work scan left : ℕ) (L : List Segment) : ℕ → Type 0 where
  met_7 : MarksOver marks L → Met marks work scan left L 7
  met_10 : ¬ MarksOver marks L → StillMarks L → left ≡ 0 → Met marks work scan left L 10
  met_8 : ¬ MarksOver marks L → StillMarks L → left ≢ 0 → PiecesOver work L → Met marks work scan left L 8
  met_9 : ¬ MarksOver marks L → StillMarks L → left ≢ 0 → ¬ PiecesOver work L → TotalLeaves (sorted (cut L)) → Met marks work scan left L 9
  met_11 : ¬ StillMarks L → TooManyLive scan L → Met marks work scan left L 11
  met_0 : ¬ StillMarks L → ¬ TooManyLive scan L → Met marks work scan left L 0

module _ (input : List ℤ) (s : Settings) (l : Lent) where
  abbrev L₀ : List Segment
  L₀ = rows_from segments input 0 s.n

  -- the first of the sentences 1 to 6 that holds is that of an `Err`, or none holds and it is `Ok`
  abbrev pub Checked : Result (Unit {0}) Fault → Type 0
  Checked = Given input s (length l.work) (length l.masks)

  -- the run looks at K, with so many allowed after it
  abbrev pub LooksAt : ℕ → List Segment → Type 0
  LooksAt = Comes (mark_room (length l.marks)) (work_room (length l.work)) (s.budget - 1) (start L₀)

  pub data Answers : ℕ → Type 0 where
    by_check : (f : Fault) → Checked (Err f) → Answers (check_says (Err f))
    by_first_9 : Checked (Ok tt) → TotalLeaves (sorted (map forward L₀)) → Answers 9
    by_look : {k left : ℕ} {K : List Segment} → Checked (Ok tt) → ¬ TotalLeaves (sorted (map forward L₀)) → LooksAt left K
        → Met (mark_room (length l.marks)) (work_room (length l.work)) (scan_room (length l.scan)) left K k → Answers k

-- ---- one look
module _ (marks work scan : ℕ) where
  -- so looks end somewhere
  pub record Ends (left : ℕ) (L : List Segment) : Type 0 where
    pub rest : ℕ
    pub list : List Segment
    pub comes : Comes marks work left L rest list
    pub number : ℕ
    pub met : Met marks work scan rest list number

module _ (marks work : ℕ) where
  module _ (s : Settings) (l : Lent) where
    abbrev scan : ℕ
    scan = scan_room (length l.scan)
