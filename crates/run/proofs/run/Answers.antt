-- The looks of the checked input come to what the definition says, and each of their endings is the definition's.
use Rattle.std.specs.Prelude.{Err}
use mathlib.Core.Path.{◌≡◌, sym, ap, ◌∙◌}
use native.Mathlib.Omega.{arith}
use mathlib.Core.List.{List}
use lib.IntN.{ℤ}
use lib.ListN.{length}
use Rattle.whole.specs.Kind.{rows_from}
use Rattle.geom.specs.Limits.{work_room, mark_room}
use Rattle.geom.specs.Rows.{segments}
use Rattle.checks.specs.Accepted.{Accepted, accepted}
use Rattle.overlay.specs.Numbers.{Answer, told}
use Rattle.overlay.specs.Looks.{Ran, ran}
use Rattle.overlay.specs.Outcome.{Lent, Outcome, swept}
use Rattle.settle.specs.Step.{came_to}
use Rattle.ending.specs.Lent.{lent}
use Rattle.run.proofs.Starting.{less-bytes, same_lengths}
use borrow.Author.Rules.{rules}
use Rattle.run.proofs.run.Goals as goal
use Rattle.run.proofs.run.Goals.{Start, After-until_settled}

fine : (c : Start) → Accepted c.args.input.now c.args.settings (length c.args.work.now) (length c.args.masks.now)
fine c = accepted c.args.input.now c.args.settings (length c.args.work.now) (length c.args.masks.now) c.requires

module _ (c : After-until_settled) where
  abbrev lists : Lent
  lists = let x = c.args in lent x.work.now x.marks.now x.scan.now x.masks.now

  abbrev comes : Ran
  comes = let x = c.args in ran (mark_room (length x.marks.now)) (work_room (length x.work.now)) x.settings.budget (rows_from segments x.input.now 0 x.settings.n)

  abbrev left : List ℤ
  left = c.until_settled.new.work

  work_size : length left ≡ length c.args.work.now
  work_size = search rules

  marks_size : length c.until_settled.new.marks ≡ length c.args.marks.now
  marks_size = search rules

  ends : {r : Answer} {o : Outcome} → c.until_settled.result ≡ r
      → o ≡ swept c.args.settings (lent left c.until_settled.new.marks c.args.scan.now c.args.masks.now) (came_to left r)
      → o ≡ swept c.args.settings lists comes
  ends {r} e h =
      let x = c.args in
      h
      ∙ same_lengths x.settings left x.work.now c.until_settled.new.marks x.marks.now x.scan.now x.masks.now (came_to left r) work_size marks_size
      ∙ ap (swept x.settings lists) (sym (ap (came_to left) e) ∙ c.until_settled.ensures.result_after)

pub until_settled-requires : goal.until_settled-requires
until_settled-requires c = less-bytes (fine (goal.at.until_settled-requires c).Start)

pub finish-requires : goal.finish-requires
finish-requires c =
    let f = fine (goal.at.finish-requires c).Start in
    let l = (goal.at.finish-requires c).After-until_settled in
    record {
      in_range = f.in_range;
      kept = c.in-Ok.ensures.still_kept;
      work_in_bounds = omega (arith, f.roomy.bytes, work_size l);
    }

pub returns-in-Ok : goal.returns-in-Ok
returns-in-Ok c = ends (goal.at.returns-in-Ok c).After-until_settled c.in-Ok.is c.finish.ensures

pub returns-in-Err : goal.returns-in-Err
unfolding swept
returns-in-Err c =
    ends (goal.at.returns-in-Err c).After-until_settled c.in-Err.is
    (ap (λ (l : Lent). record { answer = told (Err c.in-Err.refusal); lists = l }) c.clear.ensures)
