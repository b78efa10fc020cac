-- The sweep ends the run: with 11, all lists cleared; else the rows stay and what lies behind them is cleared, with the marks.
use Rattle.std.specs.Prelude.{Err}
use mathlib.Core.Path.{◌≡◌, refl, sym, ap, ◌∙◌}
use Rattle.overlay.specs.declared.answer.Refusal.TheVariants.{ScanFull}
use Rattle.overlay.specs.Numbers.{told}
use Rattle.overlay.specs.Outcome.{Lent}
use Rattle.ending.specs.Lent.{lent}
use Rattle.ending.proofs.Endings.{settles, refuses_11}
use Rattle.ending.proofs.finish.Goals as goal

pub returns-then-is_err : goal.returns-then-is_err
returns-then-is_err c =
    let x = c.args in
    let s = c.requires in
    ap (λ (l : Lent). record { answer = told (Err ScanFull); lists = l }) c.clear.ensures
    ∙ refuses_11 x.settings (lent x.work.now x.marks.now x.scan.now x.masks.now) x.settled.segments x.settled.looks s.in_range s.kept s.work_in_bounds c.fill.result c.fill.ensures (sym c.is_err.ensures.value ∙ c.if-is_err.true)

pub returns : goal.returns
returns c =
    let x = c.args in
    let s = c.requires in
    settles x.settings (lent x.work.now x.marks.now x.scan.now x.masks.now) x.settled.segments x.settled.looks s.in_range s.kept s.work_in_bounds c.fill.result c.fill.ensures refl refl (sym c.is_err.ensures.value ∙ c.if-is_err.false) c.clear_behind.ensures c.clear_i32.ensures
