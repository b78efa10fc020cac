-- The looks ("The run"), with refusals 7 to 10.
use Rattle.std.specs.Prelude.{Bool, true, false, cond, List, map, ℕ, zero, suc, ◌+◌, ◌-◌, ltb, eqb, length}
use Rattle.geom.specs.declared.Segment.{Segment}
use Rattle.segm.specs.Forward.{forward, sorted}
use Rattle.segm.specs.Merge.{merged, too_big}
use Rattle.split.specs.Look.{look, tidy}
use Rattle.split.specs.Chain.{split}
use Rattle.overlay.specs.declared.answer.Refusal.{Refusal}
use Rattle.overlay.specs.declared.answer.Refusal.TheVariants.{MarksFull, WorkFull, TooBig, Unsettled}

-- what the looks come to: a settled list and the looks made, or a refusal
pub data Ran : Type 0 where
  settled : List Segment → ℕ → Ran
  refused : Refusal → Ran

-- the squared radius of snapping
abbrev pub radius : ℕ
radius = 2

-- sorted and merged (9), and then what follows
unfoldable pub joined : List Segment → (List Segment → Ran) → Ran
joined K next = let r = next (merged (sorted K)) in cond (too_big (sorted K)) (refused TooBig) r

-- a look at L, the last one allowed or not, made others before it. An empty list makes none; 7 before settled, 10 before any split, then 8
unfoldable pub look_at : ℕ → ℕ → Bool → ℕ → List Segment → (List Segment → Ran) → Ran
look_at marks work last made L next =
    let ms = look radius L in
    let ds = tidy ms in
    let r = joined (split ds L) next in
    cond (eqb (length L) 0) (settled L made)
    (cond (ltb marks (length ms)) (refused MarksFull)
    (cond (eqb (length ms) 0) (settled L (suc made))
    (cond last (refused Unsettled)
    (cond (ltb work (length L + length ds)) (refused WorkFull) r))))

-- looks at L, with so many allowed after the next one
unfoldable pub looks_from : ℕ → ℕ → ℕ → ℕ → List Segment → Ran
looks_from marks work zero made L = look_at marks work true made L (λ K. refused Unsettled)
looks_from marks work (suc left) made L = look_at marks work false made L (looks_from marks work left (suc made))

-- the run of a checked list: turned, sorted, merged, and looked at until it is settled
unfoldable pub ran : ℕ → ℕ → ℕ → List Segment → Ran
ran marks work budget L = joined (map forward L) (looks_from marks work (budget - 1) 0)
