-- The looks still to come are those of the definition: each turn makes one of them.
use Rattle.std.specs.Prelude.{Result, Ok}
use Rattle.std.proofs.lemmas.Result.{err_from_is_err_and}
use mathlib.Core.Path.{◌≡◌, sym, ap, ◌∙◌}
use Prim.Native.Nat.{◌+◌, ◌-◌}
use native.Mathlib.Omega.{arith}
use borrow.Author.Rules.{rules}
use lib.ListN.{length}
use lib.Dec.{eqb}
use Rattle.whole.specs.Kind.{rows_from}
use Rattle.geom.specs.Limits.{work_room, mark_room}
use Rattle.geom.specs.Rows.{segments}
use Rattle.overlay.specs.declared.answer.Refusal.{Refusal}
use Rattle.overlay.specs.Looks.{Ran, look_at}
use Rattle.settle.specs.declared.Step.{Step}
use Rattle.settle.specs.Step.{goes_on, looks_allowed}
use Rattle.settle.proofs.Budget.{allowed_next}
use Rattle.settle.proofs.looks.Invariants.{comes}
use Rattle.settle.proofs.looks.Goals as goal
use Rattle.settle.proofs.looks.Goals.{After-advance}

module _ (c : After-advance) where
  abbrev after : Result Step Refusal → Ran
  after r =
      let x = c.args in
      let made = c.loop-made.made in
      goes_on (looks_allowed (mark_room (length x.marks.now)) (work_room (length x.work.now)) (x.budget - (made + 1)) (made + 1)) c.advance.new.work r

  -- the look is the definition's next
  came : {r : Result Step Refusal} → c.advance.result ≡ r → after r ≡ comes c.args.work.now c.args.marks.now c.args.budget 0 c.args.work.now c.args.m
  came e =
      let x = c.args in
      let l = c.loop-made in
      let M = mark_room (length x.marks.now) in
      let W = work_room (length x.work.now) in
      let L = rows_from segments l.work 0 l.rows in
      let rest = looks_allowed M W (x.budget - (l.made + 1)) (l.made + 1) in
      let look : look_at M W (eqb (l.made + 1) x.budget) l.made L rest ≡ after c.advance.result = cc (l.invariant.1, l.invariant.2, c.advance.ensures.next_value rest) in
      sym (sym l.invariant.4 ∙ allowed_next M W l.made x.budget L (omega arith) ∙ look ∙ ap after e)

pub returns-in_err-k-clause-result_after : goal.returns-in_err-k-clause-result_after
returns-in_err-k-clause-result_after c =
    let p = err_from_is_err_and c.from_residual.result c.from_residual.ensures.1 in
    rw (p.1, p.2) (came (goal.at.returns-in_err-k-clause-result_after c).After-advance c.in_err-k.was)

pub returns-in-Settled-clause-result_after : goal.returns-in-Settled-clause-result_after
returns-in-Settled-clause-result_after c = came (goal.at.returns-in-Settled-clause-result_after c).After-advance (c.in_ok-k.was ∙ ap Ok c.in-Settled.is)

pub loop-made-preserved : goal.loop-made-preserved
loop-made-preserved c =
    let kept = rw c.in-Next.is at c.in_ok-k.ensures.still_kept in
    (omega arith, search rules, search rules, kept, came (goal.at.loop-made-preserved c).After-advance (c.in_ok-k.was ∙ ap Ok c.in-Next.is), λ z. absurd (omega arith))

pub returns-clause-result_after : goal.returns-clause-result_after
unfolding looks_allowed
returns-clause-result_after c =
    let l = c.loop-made in
    let e : c.args.budget - l.made ≡ 0 = omega arith in
    rw e at l.invariant.4
