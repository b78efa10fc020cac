-- `fill`: the refusals in order, each by its test; then the sweep over cleared masks.
use mathlib.Core.Path.{◌≡◌, sym, ap, ap₂, ◌∙◌}
use mathlib.Core.Bool.{false}
use Prim.Native.Nat.{ℕ, ◌*◌, ◌≤◌}
use native.Mathlib.Omega.{arith}
use lib.ListN.{length, length-replicate}
use Rattle.whole.specs.Kind.{rows_from}
use Rattle.whole.proofs.KindLaws.{length-rows}
use Rattle.geom.specs.Rows.{segments}
use borrow.Author.Rules.{rules}
use Rattle.faults.specs.Faults.{some, is_off, is_point, has_least}
use Rattle.std.specs.Prelude.{Result, Ok, Err, ⊤, IsErrAnd}
use Rattle.build.specs.declared.sweep.FillError.{FillError}
use Rattle.build.specs.declared.sweep.FillError.TheVariants.{BadRule}
use Rattle.masks.specs.Rules.{fill_number, overlay_number}
use Rattle.build.specs.Fill.{is_short, is_bad, number_of, answer_of, swept, fill_said}
use Rattle.build.proofs.Filling.{long, ruled, on_grids, refused_1, refused_2, refused_3, refused_4, refused_5, not_refused, left-full, left-bytes}
use Rattle.build.proofs.sweep.fill.Goals as goal
use Rattle.build.proofs.sweep.fill.Goals.{After-sweep-swept, Else-is_short, In_ok-rules, Else-some_row, Else-some_row-2, Else-some_row-3}

by_error : (r : Result ⊤ FillError) {P : FillError → Type 0} → IsErrAnd r P → ((e : FillError) → P e → e ≡ BadRule) → answer_of r ≡ 2
by_error (Ok _) {P = P} p f = elim p [ ]
by_error (Err e) p f = ap number_of (f e p)

-- ---- the tests that were passed

not_short : (c : Else-is_short) → let a = c.args in is_short a.n (length a.work.now) (length a.masks.now) ≡ false
not_short c = sym c.is_short.ensures ∙ c.if-is_short.false

in_range : (c : In_ok-rules) → let a = c.args in is_bad a.fill a.rule ≡ false
in_range c = ruled c.in_ok-rules.rules c.in_ok-rules.ensures.0 c.in_ok-rules.ensures.1

gridded : (c : Else-some_row) → let a = c.args in some is_off (rows_from segments a.work.now 0 a.n) ≡ false
gridded c = sym (c.some_row.ensures is_off (λ v r h. search rules)) ∙ c.if-some_row.false

lengthy : (c : Else-some_row-2) → let a = c.args in some is_point (rows_from segments a.work.now 0 a.n) ≡ false
lengthy c = sym (c.some_row-2.ensures is_point (λ v r h. search rules)) ∙ c.if-some_row-2.false

enough : (c : Else-is_short) → let a = c.args in (6 * a.n ≤ length a.work.now) × (a.n ≤ 2048) × (a.n ≤ length a.masks.now)
enough c = let a = c.args in long a.n (length a.work.now) (length a.masks.now) (not_short c)

pub returns-then-is_short : goal.returns-then-is_short
returns-then-is_short c =
    let a = c.args in
    refused_1 a.work.now a.n a.fill a.rule a.scan.now a.masks.now (sym c.is_short.ensures ∙ c.if-is_short.true)

pub returns-in_err-rules : goal.returns-in_err-rules
returns-in_err-rules c =
    let a = c.args in
    let bad = c.in_err-rules.ensures in
    rw (by_error c.from_residual.result c.from_residual.ensures.1 (λ e p. p ∙ bad.0)) (refused_2 a.work.now a.n a.fill a.rule a.scan.now a.masks.now (not_short (goal.at.returns-in_err-rules c).Else-is_short) bad.1)

pub some_row-requires-clause-in_bounds : goal.some_row-requires-clause-in_bounds
some_row-requires-clause-in_bounds c = (enough (goal.at.some_row-requires-clause-in_bounds c).Else-is_short).0

pub returns-then-some_row : goal.returns-then-some_row
returns-then-some_row c =
    let a = c.args in
    refused_3 a.work.now a.n a.fill a.rule a.scan.now a.masks.now (not_short (goal.at.returns-then-some_row c).Else-is_short) (in_range (goal.at.returns-then-some_row c).In_ok-rules) (sym (c.some_row.ensures is_off (λ v r h. search rules)) ∙ c.if-some_row.true)

pub some_row-requires-2-clause-in_bounds : goal.some_row-requires-2-clause-in_bounds
some_row-requires-2-clause-in_bounds c = (enough (goal.at.some_row-requires-2-clause-in_bounds c).Else-is_short).0

pub returns-then-some_row-2 : goal.returns-then-some_row-2
returns-then-some_row-2 c =
    let a = c.args in
    refused_4 a.work.now a.n a.fill a.rule a.scan.now a.masks.now (not_short (goal.at.returns-then-some_row-2 c).Else-is_short) (in_range (goal.at.returns-then-some_row-2 c).In_ok-rules) (gridded (goal.at.returns-then-some_row-2 c).Else-some_row) (sym (c.some_row-2.ensures is_point (λ v r h. search rules)) ∙ c.if-some_row-2.true)

pub some_row-requires-3-clause-in_bounds : goal.some_row-requires-3-clause-in_bounds
some_row-requires-3-clause-in_bounds c = (enough (goal.at.some_row-requires-3-clause-in_bounds c).Else-is_short).0

pub returns-then-some_row-3 : goal.returns-then-some_row-3
returns-then-some_row-3 c =
    let a = c.args in
    refused_5 a.work.now a.n a.fill a.rule a.scan.now a.masks.now (not_short (goal.at.returns-then-some_row-3 c).Else-is_short) (in_range (goal.at.returns-then-some_row-3 c).In_ok-rules) (gridded (goal.at.returns-then-some_row-3 c).Else-some_row) (lengthy (goal.at.returns-then-some_row-3 c).Else-some_row-2) (sym (c.some_row-3.ensures has_least (λ v r h. search rules)) ∙ c.if-some_row-3.true)

-- ---- none was given

passed : (c : Else-some_row-3) → let a = c.args in fill_said a.work.now a.n a.fill a.rule a.scan.now a.masks.now ≡ swept (rows_from segments a.work.now 0 a.n) (fill_number c.in_ok-rules.rules) (overlay_number c.in_ok-rules.rules) a.scan.now a.masks.now
passed c =
    let a = c.args in
    let short = sym c.is_short.ensures ∙ c.if-is_short.false in
    let bad = ruled c.in_ok-rules.rules c.in_ok-rules.ensures.0 c.in_ok-rules.ensures.1 in
    let off = sym (c.some_row.ensures is_off (λ v r h. search rules)) ∙ c.if-some_row.false in
    let point = sym (c.some_row-2.ensures is_point (λ v r h. search rules)) ∙ c.if-some_row-2.false in
    not_refused a.work.now a.n a.fill a.rule a.scan.now a.masks.now short bad off point (sym (c.some_row-3.ensures has_least (λ v r h. search rules)) ∙ c.if-some_row-3.false)
    ∙ ap₂ (λ (f r : ℕ). swept (rows_from segments a.work.now 0 a.n) f r a.scan.now a.masks.now) (sym c.in_ok-rules.ensures.0) (sym c.in_ok-rules.ensures.1)

pub sweep-swept-requires : goal.sweep-swept-requires
sweep-swept-requires c =
    let a = c.args in
    let k = enough (goal.at.sweep-swept-requires c).Else-is_short in
    let z = (c.fill.ensures.after (λ y e. e)) in
    record { n_in_bounds = (k.0, k.1, rw z (rw (length-replicate {A = ℕ} (length a.masks.now) 0) k.2)); on_grids = on_grids a.work.now a.n (gridded (goal.at.sweep-swept-requires c).Else-some_row) }

pub returns-then-is_err : goal.returns-then-is_err
returns-then-is_err c =
    left-full c.args.masks.now (c.fill.ensures.after (λ y e. e)) c.sweep-swept.ensures (c.fill-2.ensures.after (λ y e. e)) (sym c.is_err.ensures.value ∙ c.if-is_err.true) (c.fill-then-is_err.ensures.after (λ y e. e)) ∙ sym (passed (goal.at.returns-then-is_err c).Else-some_row-3)

pub returns-else-is_err : goal.returns-else-is_err
returns-else-is_err c =
    let a = c.args in
    let k = enough (goal.at.returns-else-is_err c).Else-is_short in
    left-bytes a.masks.now (c.fill.ensures.after (λ y e. e)) c.sweep-swept.ensures (c.fill-2.ensures.after (λ y e. e)) (omega (arith, k.2, length-rows segments a.work.now 0 a.n)) (sym c.is_err.ensures.value ∙ c.if-is_err.false) ∙ sym (passed (goal.at.returns-else-is_err c).Else-some_row-3)
