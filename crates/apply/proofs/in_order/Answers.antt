-- `apply::in_order` meets its contract. The loop's invariant: the marks from i on answer for all.
use mathlib.Core.Path.{◌≡◌, sym, ap, ◌∙◌}
use mathlib.Core.Bool.{Bool}
use Prim.Native.Nat.{ℕ}
use Rattle.split.specs.declared.answer.Mark.{Mark}
use native.Mathlib.Omega.{arith}
use Rattle.whole.proofs.KindLaws.{rows_step, rows-done}
use Rattle.split.specs.Marks.{marks as mark_rows}
use Rattle.apply.specs.Answer.{names}
use Rattle.apply.proofs.Ordered.{not_named, not_led, ordered-later, none_unordered}
use Rattle.apply.proofs.in_order.Goals as goal
use Rattle.apply.proofs.in_order.Goals.{then-names, else-names}

named : (n : ℕ) {m k : Mark} {r b : Bool} → m ≡ k → r ≡ names n m → r ≡ b → names n k ≡ b
named n e f g = sym (ap (names n) e) ∙ sym f ∙ g

pub loop-i-preserved : goal.loop-i-preserved
loop-i-preserved c =
    let l = c.loop-i in
    let x = c.args in
    let here = rows_step mark_rows x.marks.now x.count l.i (omega arith) in
    elim c.if-names.branch [
      | then-names w ↦ (omega arith, sym (ordered-later x.n here (named x.n c.read.ensures c.names.ensures w.if-names.true) (sym w.leads.ensures ∙ sym w.value-is ∙ c.if-not-leads.false)) ∙ l.invariant.1)
      | else-names w ↦ cc
    ]

pub returns-then-not-leads : goal.returns-then-not-leads
returns-then-not-leads c =
    let l = c.loop-i in
    let x = c.args in
    let here = rows_step mark_rows x.marks.now x.count l.i (omega arith) in
    elim c.if-names.branch [
      | then-names w ↦ sym (sym l.invariant.1 ∙ not_led x.n here (named x.n c.read.ensures c.names.ensures w.if-names.true) (sym w.leads.ensures ∙ sym w.value-is ∙ c.if-not-leads.true))
      | else-names w ↦ sym (sym l.invariant.1 ∙ not_named x.n here (named x.n c.read.ensures c.names.ensures w.if-names.false))
    ]

pub returns : goal.returns
returns c =
    let l = c.loop-i in
    let x = c.args in
    sym (sym l.invariant.1 ∙ none_unordered x.n (rows-done mark_rows x.marks.now x.count l.i (omega arith)))
