-- The sweep as a part of its own, in document 01's numbers: those of refusals 1 to 11 that its lists can meet, in order ("Input and answer", "How tight the
-- promises are"), and what every lent list then holds.
use Rattle.std.specs.Prelude.{Bool, cond, ◌||◌, List, ◌++◌, ℕ, ◌*◌, ltb, ℤ, pos, length, drop, replicate, Result, MatchResult, Ok, Err, ◌≡◌, true, ⊤}
use Rattle.whole.specs.Kind.{rows_from}
use Rattle.geom.specs.declared.Segment.{Segment}
use Rattle.geom.specs.Limits.{segment_limit, scan_room}
use Rattle.geom.specs.Rows.{segments}
use Rattle.masks.specs.declared.Rules.{Rules}
use Rattle.masks.specs.Rules.{fill_number, overlay_number}
use Rattle.build.specs.declared.sweep.FillError.{FillError}
use Rattle.build.specs.declared.sweep.FillError.TheVariants.{Short, BadRule, OffGrid, NoLength, BadCount, ScanFull}
use Rattle.faults.specs.Faults.{some, is_off, is_point, has_least}
use Rattle.scan.specs.Masks.{bytes, crowded}

-- ---- the refusals that change nothing; 3 to 5 are those of the checks

-- 1, from n and the lengths of the work and mask lists
unfoldable pub is_short : ℕ → ℕ → ℕ → Bool
is_short n work masks = ltb segment_limit n || (ltb work (6 * n) || ltb masks n)

-- 2
unfoldable pub is_bad : ℕ → ℕ → Bool
is_bad fill rule = ltb 3 fill || ltb 6 rule

-- the rules of these numbers, or 2
abbrev pub RulesOf : ℕ → ℕ → Result Rules FillError → Type 0
RulesOf fill rule r = MatchResult r (λ rules. (fill_number rules ≡ fill) × (overlay_number rules ≡ rule)) (λ e. (e ≡ BadRule) × (is_bad fill rule ≡ true))

-- ---- what is said

-- the number of the table, and what the scan list and the masks then hold
pub record Said : Type 0 where
  pub answer : ℕ
  pub scan : List ℤ
  pub masks : List ℕ

abbrev pub said : ℕ → List ℤ → List ℕ → Said
said a scan masks = record { answer = a; scan = scan; masks = masks }

-- the number of each refusal
abbrev pub number_of : FillError → ℕ
number_of Short = 1
number_of BadRule = 2
number_of OffGrid = 3
number_of NoLength = 4
number_of BadCount = 5
number_of ScanFull = 11

-- and 0 where there is none: the masks hold the bytes
abbrev pub answer_of : Result ⊤ FillError → ℕ
answer_of (Ok done) = 0
answer_of (Err e) = number_of e

abbrev pub fill_says : Result ⊤ FillError → List ℤ → List ℕ → Said
fill_says r scan masks = said (answer_of r) scan masks

abbrev pub zeros : List ℤ → List ℤ
zeros xs = replicate (length xs) (pos 0)

abbrev pub no_masks : List ℕ → List ℕ
no_masks ms = replicate (length ms) 0

-- 11 leaves zeros; else the bytes and then zeros, and no entry
unfoldable pub swept : List Segment → ℕ → ℕ → List ℤ → List ℕ → Said
swept L fill rule scan masks =
    cond (crowded (scan_room (length scan)) L)
    (said 11 (zeros scan) (no_masks masks))
    (said 0 (zeros scan) (bytes fill rule L ++ drop (length L) (no_masks masks)))

-- 1 to 5 in order change nothing
unfoldable pub fill_said : List ℤ → ℕ → ℕ → ℕ → List ℤ → List ℕ → Said
fill_said work n fill rule scan masks =
    let L = rows_from segments work 0 n in
    let r = swept L fill rule scan masks in
    cond (is_short n (length work) (length masks)) (said 1 scan masks)
    (cond (is_bad fill rule) (said 2 scan masks)
    (cond (some is_off L) (said 3 scan masks)
    (cond (some is_point L) (said 4 scan masks)
    (cond (some has_least L) (said 5 scan masks) r))))
