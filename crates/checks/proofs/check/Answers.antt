-- `checks::check` meets its contract: each test is one of the definition, and what the first one settles is what the others require.
use mathlib.Core.Path.{◌≡◌, sym, ◌∙◌}
use mathlib.Core.Bool.{false, cond}
use borrow.Author.Rules.{rules}
use lib.ListN.{length}
use Rattle.whole.specs.Kind.{rows_from}
use Rattle.geom.specs.Rows.{segments}
use Rattle.faults.specs.Faults.{some, is_off, is_point, has_least}
use Rattle.std.specs.Prelude.{Result, Ok, Err}
use Rattle.checks.specs.declared.Fault.{Fault}
use Rattle.checks.specs.declared.Fault.TheVariants.{Open}
use Rattle.checks.specs.Checks.{is_short, is_bad, fault_of}
use Rattle.checks.specs.Exactly.{also-said}
use Rattle.checks.specs.Accepted.{Roomy, roomy_when}
use Rattle.checks.proofs.check.Goals as goal
use Rattle.checks.proofs.check.Goals.{After-some_open, Else-bad, Else-short, Else-some_row, Else-some_row-2, Else-some_row-3}

-- ---- what the tests passed say

not_short : (c : Else-short) → is_short c.args.settings.n (length c.args.input.now) c.args.work c.args.masks ≡ false
not_short c = sym c.short.ensures ∙ c.if-short.false

not-bad : (c : Else-bad) → is_bad c.args.settings ≡ false
not-bad c = sym c.bad.ensures ∙ c.if-bad.false

none-off : (c : Else-some_row) → some is_off (rows_from segments c.args.input.now 0 c.args.settings.n) ≡ false
none-off c = sym (c.some_row.ensures is_off (λ v r h. search rules)) ∙ c.if-some_row.false

none-point : (c : Else-some_row-2) → some is_point (rows_from segments c.args.input.now 0 c.args.settings.n) ≡ false
none-point c = sym (c.some_row-2.ensures is_point (λ v r h. search rules)) ∙ c.if-some_row-2.false

none-least : (c : Else-some_row-3) → some has_least (rows_from segments c.args.input.now 0 c.args.settings.n) ≡ false
none-least c = sym (c.some_row-3.ensures has_least (λ v r h. search rules)) ∙ c.if-some_row-3.false

room : (c : Else-short) → Roomy c.args.settings.n (length c.args.input.now) c.args.work c.args.masks
room c = roomy_when _ _ _ _ (not_short c)

-- once five tests are passed, the sixth decides
open-decides : (c : After-some_open) → let x = c.args in fault_of x.input.now x.settings x.work x.masks ≡ cond {A = Result (Unit {0}) Fault} c.some_open.result (Err Open) (Ok tt)
unfolding fault_of
open-decides c =
    rw (sym c.short.ensures ∙ c.if-short.false, sym c.bad.ensures ∙ c.if-bad.false, sym (c.some_row.ensures is_off (λ v r h. search rules)) ∙ c.if-some_row.false, sym (c.some_row-2.ensures is_point (λ v r h. search rules)) ∙ c.if-some_row-2.false, sym (c.some_row-3.ensures has_least (λ v r h. search rules)) ∙ c.if-some_row-3.false, sym c.some_open.ensures)

-- ---- the needs

pub returns-then-short : goal.returns-then-short
unfolding fault_of
returns-then-short c =
    let p = also-said _ _ _ _ (rw (sym c.short.ensures ∙ c.if-short.true)) in
    record { value = p.0; result_value = p.1 }

pub returns-then-bad : goal.returns-then-bad
unfolding fault_of
returns-then-bad c =
    let p = also-said _ _ _ _ (rw (not_short (goal.at.returns-then-bad c).Else-short, sym c.bad.ensures ∙ c.if-bad.true)) in
    record { value = p.0; result_value = p.1 }

pub some_row-requires-clause-in_bounds : goal.some_row-requires-clause-in_bounds
some_row-requires-clause-in_bounds c = (room (goal.at.some_row-requires-clause-in_bounds c).Else-short).rows

pub returns-then-some_row : goal.returns-then-some_row
unfolding fault_of
returns-then-some_row c =
    let p = also-said _ _ _ _ (rw (not_short (goal.at.returns-then-some_row c).Else-short, not-bad (goal.at.returns-then-some_row c).Else-bad, sym (c.some_row.ensures is_off (λ v r h. search rules)) ∙ c.if-some_row.true)) in
    record { value = p.0; result_value = p.1 }

pub some_row-requires-2-clause-in_bounds : goal.some_row-requires-2-clause-in_bounds
some_row-requires-2-clause-in_bounds c = (room (goal.at.some_row-requires-2-clause-in_bounds c).Else-short).rows

pub returns-then-some_row-2 : goal.returns-then-some_row-2
unfolding fault_of
returns-then-some_row-2 c =
    let p = also-said _ _ _ _ (rw (not_short (goal.at.returns-then-some_row-2 c).Else-short, not-bad (goal.at.returns-then-some_row-2 c).Else-bad, none-off (goal.at.returns-then-some_row-2 c).Else-some_row, sym (c.some_row-2.ensures is_point (λ v r h. search rules)) ∙ c.if-some_row-2.true)) in
    record { value = p.0; result_value = p.1 }

pub some_row-requires-3-clause-in_bounds : goal.some_row-requires-3-clause-in_bounds
some_row-requires-3-clause-in_bounds c = (room (goal.at.some_row-requires-3-clause-in_bounds c).Else-short).rows

pub returns-then-some_row-3 : goal.returns-then-some_row-3
unfolding fault_of
returns-then-some_row-3 c =
    let p = also-said _ _ _ _ (rw (not_short (goal.at.returns-then-some_row-3 c).Else-short, not-bad (goal.at.returns-then-some_row-3 c).Else-bad, none-off (goal.at.returns-then-some_row-3 c).Else-some_row, none-point (goal.at.returns-then-some_row-3 c).Else-some_row-2, sym (c.some_row-3.ensures has_least (λ v r h. search rules)) ∙ c.if-some_row-3.true)) in
    record { value = p.0; result_value = p.1 }

pub some_open-requires : goal.some_open-requires
some_open-requires c = let r = room (goal.at.some_open-requires c).Else-short in record { n_bound = r.limited; n_in_bounds = r.rows }

pub returns-then-some_open : goal.returns-then-some_open
returns-then-some_open c =
    let p = also-said _ _ _ _ (sym (open-decides (goal.at.returns-then-some_open c).After-some_open ∙ rw c.if-some_open.true)) in
    record { value = p.0; result_value = p.1 }

pub returns : goal.returns
returns c =
    let p = also-said _ _ _ _ (sym (open-decides (goal.at.returns c).After-some_open ∙ rw c.if-some_open.false)) in
    record { value = p.0; result_value = p.1 }
