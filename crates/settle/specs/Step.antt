-- What a look and what follows it come to ("The run"), by what the work list then holds.
use Rattle.std.specs.Prelude.{cond, Result, Ok, Err, List, ℕ, zero, suc, ◌+◌, ltb, ℤ, length}
use Rattle.whole.specs.Kind.{rows_from}
use Rattle.geom.specs.declared.Segment.{Segment}
use Rattle.geom.specs.Rows.{segments}
use Rattle.split.specs.Look.{look, tidy}
use Rattle.overlay.specs.declared.answer.Refusal.{Refusal}
use Rattle.overlay.specs.declared.answer.Refusal.TheVariants.{WorkFull, Unsettled}
use Rattle.overlay.specs.Numbers.{Answer}
use Rattle.overlay.specs.Looks.{Ran, settled, refused, radius, joined, looks_from}
use Rattle.demands.specs.Chain.{cut}
use Rattle.settle.specs.declared.Step.{Step}
use Rattle.settle.specs.declared.Step.TheVariants.{Next, Settled}
use Rattle.settle.specs.Kept.{Kept}

-- the run that has ended with the first rows, or is refused
abbrev pub came_to : List ℤ → Answer → Ran
came_to xs (Ok s) = settled (rows_from segments xs 0 s.segments) s.looks
came_to xs (Err r) = refused r

-- the run that goes on as `next` with the first k rows, or has ended with them, or is refused
abbrev pub goes_on : (List Segment → Ran) → List ℤ → Result Step Refusal → Ran
goes_on next xs (Ok (Next k)) = next (rows_from segments xs 0 k)
goes_on next xs (Ok (Settled s)) = came_to xs (Ok s)
goes_on next xs (Err r) = refused r

-- the rows that are then in use keep what every list keeps
abbrev pub StillKept : List ℤ → Step → Type 0
StillKept xs (Next k) = Kept xs k
StillKept xs (Settled s) = Kept xs s.segments

-- a look that was not the last and yields marks: 8, or split, sorted and merged
unfoldable pub split_at : ℕ → List Segment → (List Segment → Ran) → Ran
split_at work L next = cond (ltb work (length L + length (tidy (look radius L)))) (refused WorkFull) (joined (cut L) next)

-- looks at L, so many of them allowed
unfoldable pub looks_allowed : ℕ → ℕ → ℕ → ℕ → List Segment → Ran
looks_allowed marks work zero made L = refused Unsettled
looks_allowed marks work (suc left) made L = looks_from marks work left made L
