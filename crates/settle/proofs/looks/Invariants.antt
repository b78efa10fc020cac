-- The looks made so far, and what those left come to from the rows that stand.
use mathlib.Core.Path.{◌≡◌}
use mathlib.Core.List.{List}
use Prim.Native.Nat.{ℕ, ◌≤◌, ◌-◌}
use lib.IntN.{ℤ}
use lib.ListN.{length}
use Rattle.whole.specs.Kind.{rows_from}
use Rattle.geom.specs.Limits.{work_room, mark_room}
use Rattle.geom.specs.Rows.{segments}
use Rattle.overlay.specs.Looks.{Ran}
use Rattle.settle.specs.Kept.{Kept}
use Rattle.settle.specs.Step.{looks_allowed}
use Rattle.settle.proofs.looks.Given as goal

-- what the looks come to, from so many rows and with so many looks left
abbrev pub comes : List ℤ → List ℤ → ℕ → ℕ → List ℤ → ℕ → Ran
comes work₀ marks₀ left made work rows = looks_allowed (mark_room (length marks₀)) (work_room (length work₀)) left made (rows_from segments work 0 rows)

abbrev pub invariant-loop-made : goal.invariant-loop-made
invariant-loop-made l =
    (l.made ≤ l.budget)
    × (length l.work ≡ length l.initial.work)
    × (length l.marks ≡ length l.initial.marks)
    × Kept l.work l.rows
    × (comes l.initial.work l.initial.marks (l.budget - l.made) l.made l.work l.rows ≡ comes l.initial.work l.initial.marks l.budget 0 l.initial.work l.m)
    × (l.budget ≡ 0 → Kept l.work l.m)

abbrev pub decreases-loop-made : goal.decreases-loop-made
decreases-loop-made l = l.budget - l.made
