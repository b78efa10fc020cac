-- `apply::leads` meets its contract: the mark after it is the first of the rows that are left, if there is one.
use mathlib.Core.Path.{◌≡◌, sym, ap, ap₂, ◌∙◌}
use mathlib.Core.Bool.{true}
use Prim.Native.Nat.{◌+◌}
use native.Mathlib.Omega.{arith}
use Rattle.std.proofs.Common.{nat_eq}
use borrow.Author.Rules.{rules}
use Rattle.whole.specs.Kind.{row_at}
use Rattle.whole.proofs.KindLaws.{rows_step, rows-done}
use Rattle.split.specs.Marks.{marks}
use Rattle.apply.specs.Answer.{leads, earlier}
use Rattle.apply.proofs.leads.Goals as goal

pub returns-then-i-count : goal.returns-then-i-count
unfolding leads
returns-then-i-count c =
    let x = c.args in
    let zs = x.marks.now in
    let h : nat_eq (x.i + 1) x.count ≡ true = search rules in
    h ∙ sym (ap (leads (row_at marks zs x.i)) (rows-done marks zs x.count (x.i + 1) (omega arith)))

pub returns-else-i-count : goal.returns-else-i-count
unfolding leads
returns-else-i-count c =
    let x = c.args in
    let zs = x.marks.now in
    c.earlier.ensures
    ∙ ap₂ earlier c.read.ensures c.read-else-i-count.ensures
    ∙ sym (ap (leads (row_at marks zs x.i)) (rows_step marks zs x.count (x.i + 1) (omega arith)))
