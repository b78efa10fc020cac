-- Each way out of a look is a clause of the definition, as the laws of Looking say.
use mathlib.Core.Path.{◌∙◌}
use native.Mathlib.Omega.{arith}
use Rattle.std.proofs.lemmas.Result.{err_from_is_err_and}
use Rattle.settle.proofs.Looking.{Found, found, is_marked, no_rows, refuses_7, settles, refuses_10, splits}
use Rattle.settle.proofs.advance.Goals as goal
use Rattle.settle.proofs.advance.Goals.{In-Ok}

counted : (c : In-Ok) → Found c.args.work.now c.args.m c.requires.kept c.args.marks.now c.in-Ok.count
counted c = found c.args.work.now c.args.m c.requires.kept c.args.marks.now (cc) c.in-Ok.is

pub returns-then-m-eq0-clause-next_value : goal.returns-then-m-eq0-clause-next_value
returns-then-m-eq0-clause-next_value c =
    let s = c.args in
    λ f. no_rows s.work.now s.m c.requires.kept s.marks.now s.last s.made f c.if-m-eq0.true

pub returns-in_default-clause-next_value : goal.returns-in_default-clause-next_value
returns-in_default-clause-next_value c =
    let s = c.args in
    λ f. refuses_7 s.work.now s.m c.requires.kept s.marks.now s.last s.made f c.if-m-eq0.false c.look.ensures.value c.in_default.is

pub returns-then-count-eq0-clause-next_value : goal.returns-then-count-eq0-clause-next_value
returns-then-count-eq0-clause-next_value c =
    let s = c.args in
    let k = counted (goal.at.returns-then-count-eq0-clause-next_value c).In-Ok in
    λ f. settles s.work.now s.m c.requires.kept s.marks.now s.last s.made f c.if-m-eq0.false k (omega arith)

pub returns-then-last-clause-next_value : goal.returns-then-last-clause-next_value
returns-then-last-clause-next_value c =
    let s = c.args in
    let k = counted (goal.at.returns-then-last-clause-next_value c).In-Ok in
    λ f. refuses_10 s.work.now s.m c.requires.kept s.marks.now s.last s.made f c.if-m-eq0.false k c.if-count-eq0.false c.if-last.true

pub cut-requires-clause-marked : goal.cut-requires-clause-marked
cut-requires-clause-marked c =
    let s = c.args in
    is_marked s.work.now s.m c.requires.kept s.marks.now (counted (goal.at.cut-requires-clause-marked c).In-Ok) c.in-Ok.is c.look.ensures.marks_after

pub returns-in_err-cut-clause-next_value : goal.returns-in_err-cut-clause-next_value
returns-in_err-cut-clause-next_value c =
    let s = c.args in
    let k = counted (goal.at.returns-in_err-cut-clause-next_value c).In-Ok in
    let p = err_from_is_err_and c.from_residual.result c.from_residual.ensures.1 in
    λ f. rw (p.1, p.2) (splits s.work.now s.m c.requires.kept s.marks.now s.last s.made f c.if-m-eq0.false k c.if-count-eq0.false c.if-last.false ∙ c.in_err-cut.ensures.err f)

pub returns-clause-next_value : goal.returns-clause-next_value
returns-clause-next_value c =
    let s = c.args in
    let k = counted (goal.at.returns-clause-next_value c).In-Ok in
    λ f. splits s.work.now s.m c.requires.kept s.marks.now s.last s.made f c.if-m-eq0.false k c.if-count-eq0.false c.if-last.false ∙ c.in_ok-cut.ensures.ok f
