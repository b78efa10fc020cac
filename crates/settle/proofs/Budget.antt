-- Looks within the budget: each is the definition's next, and it is the last exactly if none is left after it.
use mathlib.Core.Path.{◌≡◌, sym, ◌∙◌}
use mathlib.Core.List.{List}
use mathlib.Core.Logic.{⊎_elim}
use Prim.Native.Nat.{ℕ, zero, suc, ◌+◌, ◌-◌, ◌<◌}
use native.Mathlib.Numerals.{add-one}
use native.Mathlib.Omega.{arith}
use lib.Dec.{eqb}
use borrow.Author.Tests.{eq-eqb, ne_eqb}
use Rattle.whole.specs.Total.{same_or}
use Rattle.geom.specs.declared.Segment.{Segment}
use Rattle.overlay.specs.Looks.{look_at, looks_from}
use Rattle.settle.specs.Step.{looks_allowed}

module _ (marks work : ℕ) where
  allowed_step : (left made : ℕ) (L : List Segment) → looks_allowed marks work (suc left) made L ≡ look_at marks work (eqb left 0) made L (looks_allowed marks work left (suc made))
  unfolding looks_allowed looks_from
  allowed_step zero made L = cc
  allowed_step (suc left) made L = rw (ne_eqb (suc left) 0 (λ e. omega arith))

  last_is : (made budget : ℕ) → made < budget → eqb (made + 1) budget ≡ eqb (budget - (made + 1)) 0
  last_is made budget h =
      ⊎_elim (λ (e : made + 1 ≡ budget). eq-eqb (made + 1) budget e ∙ sym (eq-eqb (budget - (made + 1)) 0 (omega arith)))
      (λ n. ne_eqb (made + 1) budget (λ e. omega arith) ∙ sym (ne_eqb (budget - (made + 1)) 0 (λ e. omega arith)))
      (same_or (made + 1) budget)

  pub allowed_next : (made budget : ℕ) (L : List Segment) → made < budget
      → looks_allowed marks work (budget - made) made L ≡ look_at marks work (eqb (made + 1) budget) made L (looks_allowed marks work (budget - (made + 1)) (made + 1))
  allowed_next made budget L h =
      let e : budget - made ≡ suc (budget - (made + 1)) = omega arith in
      rw (e, last_is made budget h, add-one made) (allowed_step (budget - suc made) made L)
