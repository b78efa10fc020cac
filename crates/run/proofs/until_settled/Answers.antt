-- The checked input is joined and looked at until it is settled: each part gives what the definition makes of its list.
use mathlib.Core.Path.{refl, sym, ap, ◌∙◌, subst}
use mathlib.Core.List.{map}
use native.Mathlib.Omega.{arith}
use lib.ListN.{length}
use Rattle.whole.specs.Kind.{rows_from}
use Rattle.geom.specs.Limits.{work_room, mark_room}
use Rattle.geom.specs.Rows.{segments}
use Rattle.segm.specs.Forward.{forward}
use Rattle.settle.specs.Step.{looks_allowed}
use Rattle.settle.proofs.Joining.{Merges}
use Rattle.run.proofs.Starting.{no_least, begun_size, begun_room, joins, refuses_9, looks-start}
use Rattle.run.proofs.until_settled.Goals as goal
use Rattle.run.proofs.until_settled.Goals.{In-Ok}

first : (c : In-Ok) → Merges (map forward (rows_from segments c.args.input.now 0 c.args.settings.n)) (length c.args.work.now) c.join.new.work c.in-Ok.m
first c =
    let x = c.args in
    let b = c.begin.ensures in
    subst (λ n. Merges (map forward (rows_from segments x.input.now 0 x.settings.n)) n c.join.new.work c.in-Ok.m) (begun_size x.input.now x.settings (length x.work.now) _ c.requires x.work.now _ refl b)
    (joins x.input.now x.settings (length x.work.now) _ c.requires x.work.now _ refl b c.join.ensures.value c.in-Ok.is c.join.ensures.work_after)

pub begin-requires : goal.begin-requires
begin-requires c =
    let x = c.args in
    record { n_in_bounds = c.requires.roomy.rows; n_in_bounds_2 = omega (arith, c.requires.roomy.room); n_value = no_least x.input.now x.settings (length x.work.now) _ c.requires }

pub join-requires : goal.join-requires
join-requires c =
    let x = c.args in
    let p = begun_room x.input.now x.settings (length x.work.now) _ c.requires x.work.now _ refl c.begin.ensures in
    record { n_le_segment_limit = p.0; n_in_bounds = p.1 }

pub returns-in_default-clause-result_after : goal.returns-in_default-clause-result_after
returns-in_default-clause-result_after c =
    let x = c.args in
    sym (refuses_9 x.input.now x.settings (length x.work.now) _ c.requires x.work.now _ refl c.begin.ensures (mark_room (length x.marks.now)) c.join.ensures.value c.in_default.is)

pub looks-requires : goal.looks-requires
looks-requires c = record { kept = (first (goal.at.looks-requires c).In-Ok).kept; budget_bound = c.requires.in_range.looks }

pub returns-clause-result_after : goal.returns-clause-result_after
returns-clause-result_after c =
    let x = c.args in
    let f = first (goal.at.returns-clause-result_after c).In-Ok in
    let M = mark_room (length x.marks.now) in
    c.looks.ensures.result_after
    ∙ ap (λ n. looks_allowed M (work_room n) x.settings.budget 0 (rows_from segments c.join.new.work 0 c.in-Ok.m)) f.size
    ∙ sym (looks-start x.input.now x.settings (length x.work.now) _ c.requires x.work.now _ refl c.begin.ensures M f)
