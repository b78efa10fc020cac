-- The looks settle exactly if their chain ends and no refusal 7 to 10 stands in the way of it ("Input and answer": none is given otherwise).
use Rattle.std.specs.Prelude.{◌≡◌, Bool, ◌≢◌, eqb}
use Rattle.std.proofs.Math.Path.{refl, ap}
use Rattle.std.proofs.Common.{arith}
use Rattle.std.proofs.Math.Bool.{false}
use mathlib.Core.List.{List, [], ◌∷◌}
use Prim.Native.Nat.{ℕ, suc}
use Rattle.std.proofs.Math.ListN.{length}
use borrow.Author.Tests.{eq-eqb, ne_eqb, le-ltb}
use Rattle.geom.specs.declared.Segment.{Segment}
use Rattle.split.specs.declared.answer.Mark.{Mark}
use Rattle.split.specs.Look.{look}
use Rattle.overlay.specs.Looks.{Ran, settled, radius, look_at}
use Rattle.demands.specs.Chain.{next, Passes}

-- looks at L until one yields no mark: so many with marks are allowed (10), and each of them passes
pub data Allowed (room work : ℕ) : ℕ → List Segment → Type 0 where
  rests : {left : ℕ} {L : List Segment} → look radius L ≡ [] → Allowed room work left L
  goes_on : {left : ℕ} {L : List Segment} → look radius L ≢ [] → Passes room work L → Allowed room work left (next L) → Allowed room work (suc left) L

-- ---- one look

pub count-some : {A : Type 0} (L : List A) → L ≢ [] → eqb (length L) 0 ≡ false
count-some [] n = absurd (n refl)
count-some (t ∷ L) n = ne_eqb (length (t ∷ L)) 0 (λ e. omega arith)

module _ (room work made : ℕ) (f : List Segment → Ran) (L : List Segment) where
  abbrev ms : List Mark
  ms = look radius L

  pub at_last : (final : Bool) → L ≢ [] → look radius L ≡ [] → look_at room work final made L f ≡ settled L (suc made)
  unfolding look_at
  at_last final n e =
      let none : length ms ≡ 0 = ap length e in
      rw (count-some L n, le-ltb room (length ms) (omega arith), eq-eqb (length ms) 0 none)
