-- Each part in turn gives its definition's list, as the laws of Cutting say.
use mathlib.Core.Path.{◌≡◌, sym, ap, ◌∙◌}
use Prim.Native.Nat.{ℕ}
use native.Mathlib.Omega.{arith}
use mathlib.Core.List.{List}
use lib.ListN.{length}
use Rattle.whole.specs.Kind.{rows_from}
use Rattle.geom.specs.declared.Segment.{Segment}
use Rattle.geom.specs.Rows.{segments}
use Rattle.split.specs.Look.{look, tidy}
use Rattle.std.specs.Prelude.{Ok}
use Rattle.apply.specs.Answer.{apply_answer, apply_list}
use Rattle.overlay.specs.Looks.{radius}
use Rattle.settle.proofs.Cutting.{Tidy, Split, is_distinct, is_tidy, never_short, is_split, is_full, refuses_8, goes_on_lem, refuses_9}
use Rattle.settle.proofs.cut.Goals as goal
use Rattle.settle.proofs.cut.Goals.{After-apply}

module _ (c : After-apply) where
  abbrev L : List Segment
  L = rows_from segments c.args.work.now 0 c.args.m

  number : c.in-Ok.k ≡ length (tidy (look radius L))
  number = let e = sym c.in-Ok.is ∙ is_distinct c.requires.marked c.tidy.ensures.value in cc

  tidied : Tidy L c.tidy.new.marks
  tidied = is_tidy c.requires.marked c.in-Ok.is c.tidy.ensures.marks_after

  answered : c.apply.result ≡ apply_answer c.args.work.now c.args.m c.tidy.new.marks (length (tidy (look radius L)))
  answered = cc (c.apply.ensures.value, number)

  divided : {p : ℕ} → c.apply.result ≡ Ok p → Split L c.apply.new.work (length c.args.work.now) p
  divided e =
      is_split c.args.work.now c.args.m c.requires.kept tidied answered e
      (c.apply.ensures.work_after ∙ ap (apply_list c.apply.result c.args.work.now c.args.m c.tidy.new.marks) number)

pub returns-in_default-clause-err : goal.returns-in_default-clause-err
returns-in_default-clause-err c = absurd (never_short c.requires.marked c.tidy.ensures.value c.in_default.is)

pub returns-in_default-apply-clause-err : goal.returns-in_default-apply-clause-err
returns-in_default-apply-clause-err c =
    let xs = c.args.work.now in
    let a = (goal.at.returns-in_default-apply-clause-err c).After-apply in
    refuses_8 xs c.args.m c.requires.kept (is_full xs c.args.m c.requires.kept (tidied a) (answered a) c.in_default-apply.is)

pub join-requires : goal.join-requires
join-requires c =
    let h = divided (goal.at.join-requires c).After-apply c.in-Ok-apply.is in
    record { n_le_segment_limit = omega (arith, h.room); n_in_bounds = omega (arith, h.room, h.size) }

pub returns-in_default-join-clause-err : goal.returns-in_default-join-clause-err
returns-in_default-join-clause-err c =
    let h = divided (goal.at.returns-in_default-join-clause-err c).After-apply c.in-Ok-apply.is in
    refuses_9 c.args.work.now c.args.m c.requires.kept h c.join.ensures.value c.in_default-join.is

pub returns : goal.returns
returns c =
    let h = divided (goal.at.returns c).After-apply c.in-Ok-apply.is in
    let p = goes_on_lem c.args.work.now c.args.m c.requires.kept h c.join.ensures.value c.in-Ok-join.is c.join.ensures.work_after in
    record { ok = p.0; err = tt; still_kept = p.1 }
