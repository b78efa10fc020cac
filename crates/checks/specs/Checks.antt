-- Refusals 1 to 6 ("Input and answer"), and which of them is given: 1 and 2 here, 3 to 5 are faults of one segment, 6 of the whole list.
use Rattle.std.specs.Prelude.{Bool, cond, ◌||◌, List, ℕ, ◌*◌, ltb, eqb, ℤ, length, Result, Ok, Err}
use Rattle.whole.specs.Kind.{rows_from}
use Rattle.geom.specs.Limits.{segment_limit, work_room}
use Rattle.geom.specs.Rows.{segments}
use Rattle.faults.specs.Faults.{some, is_off, is_point, has_least, fault}
use Rattle.outlines.specs.Open.{is_open}
use Rattle.checks.specs.declared.Fault.{Fault}
use Rattle.checks.specs.declared.Fault.TheVariants.{Short, BadSettings, OffGrid, NoLength, BadCount, Open}
use Rattle.checks.specs.declared.Settings.{Settings}

-- 1, from n and the lengths of the input, work and mask lists
unfoldable pub is_short : ℕ → ℕ → ℕ → ℕ → Bool
is_short n input work masks = (ltb segment_limit n || ltb input (6 * n)) || (ltb (work_room work) n || ltb masks (work_room work))

-- 2
unfoldable pub is_bad : Settings → Bool
is_bad s = (ltb 3 s.fill || ltb 6 s.rule) || (eqb s.budget 0 || ltb 64 s.budget)

-- 1 to 6 in order, each over all segments before the next; the lengths of the work list and the masks
unfoldable pub fault_of : List ℤ → Settings → ℕ → ℕ → Result (Unit {0}) Fault
fault_of input s work masks =
    let L = rows_from segments input 0 s.n in
    cond (is_short s.n (length input) work masks) (Err Short)
    (cond (is_bad s) (Err BadSettings)
    (cond (some is_off L) (Err OffGrid)
    (cond (some is_point L) (Err NoLength)
    (cond (some has_least L) (Err BadCount)
    (cond (is_open L) (Err Open) (Ok tt))))))

-- the number of each answer
abbrev pub check_says : Result (Unit {0}) Fault → ℕ
check_says (Ok tt) = 0
check_says (Err Short) = 1
check_says (Err BadSettings) = 2
check_says (Err OffGrid) = 3
check_says (Err NoLength) = 4
check_says (Err BadCount) = 5
check_says (Err Open) = 6

-- the table: 1 to 6 in order, and 0 for none
unfoldable pub check_said : List ℤ → Settings → ℕ → ℕ → ℕ
check_said input s work masks =
    let L = rows_from segments input 0 s.n in
    cond (is_short s.n (length input) work masks) 1
    (cond (is_bad s) 2
    (cond (some (fault 3) L) 3
    (cond (some (fault 4) L) 4
    (cond (some (fault 5) L) 5
    (cond (is_open L) 6 0)))))
