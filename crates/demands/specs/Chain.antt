-- The chain of lists that "The run" makes: the list before each look, each from the one before it, down to a list that is settled.
use Rattle.std.specs.Prelude.{◌≡◌, Bool, List, [], ◌∷◌, map, ◌≢◌, length}
use Rattle.std.proofs.Math.Bool.{false}
use Prim.Native.Nat.{ℕ, suc, ◌+◌, ◌≤◌}
use Rattle.geom.specs.declared.Segment.{Segment}
use Rattle.segm.specs.Forward.{forward, sorted}
use Rattle.segm.specs.Merge.{merged, too_big}
use Rattle.split.specs.Look.{look, tidy}
use Rattle.split.specs.Chain.{split}
use Rattle.overlay.specs.Looks.{Ran, settled, radius}

-- the list of the first look: turned, sorted, merged
abbrev pub start : List Segment → List Segment
start L = merged (sorted (map forward L))

-- the list that a look at L splits it into, before it is sorted and merged
abbrev pub cut : List Segment → List Segment
cut L = split (tidy (look radius L)) L

-- the list that follows a look at L
abbrev pub next : List Segment → List Segment
next L = merged (sorted (cut L))

-- looks at L: the list before each of them, and the list K in which they end. An empty list makes no look; the last look yields no mark, every other one does
pub data Looks : List Segment → List (List Segment) → List Segment → Type 0 where
  empty : Looks [] [] []
  done : {L : List Segment} → L ≢ [] → look radius L ≡ [] → Looks L (L ∷ []) L
  again : {L K : List Segment} {Ls : List (List Segment)} → look radius L ≢ [] → Looks (next L) Ls K → Looks L (L ∷ Ls) K

-- a run of the list L that settles as K after so many looks
pub record Chain (L K : List Segment) (looks : ℕ) : Type 0 where
  pub lists : List (List Segment)
  pub chain : Looks (start L) lists K
  pub number : length lists ≡ looks

-- ---- the run makes such a chain

-- the looks at L that come to K, with made looks before them
abbrev pub Made : List Segment → List Segment → ℕ → ℕ → Type 0
Made L K made looks = (Ls : List (List Segment)) × Looks L Ls K × (made + length Ls ≡ looks)

-- a look that yields marks passes 7, 8 and 9
pub record Passes (room work : ℕ) (L : List Segment) : Type 0 where
  pub marks : length (look radius L) ≤ room
  pub pieces : length L + length (tidy (look radius L)) ≤ work
  pub totals : too_big (sorted (cut L)) ≡ false

-- what a look at L comes to, if it comes to K: L itself, or what follows with the next list
pub data Step (room work : ℕ) (final : Bool) (made : ℕ) (L : List Segment) (f : List Segment → Ran) (K : List Segment) (looks : ℕ) : Type 0 where
  no_look : L ≡ [] → L ≡ K → made ≡ looks → Step room work final made L f K looks
  no_mark_lem : L ≢ [] → look radius L ≡ [] → L ≡ K → suc made ≡ looks → Step room work final made L f K looks
  some_marks : look radius L ≢ [] → final ≡ false → Passes room work L → f (next L) ≡ settled K looks → Step room work final made L f K looks
