-- Each arm passes on what merging said of the sorted rows.
use mathlib.Core.Path.{◌≡◌, ap}
use Rattle.whole.specs.Kind.{rows_from}
use Rattle.geom.specs.Rows.{segments}
use Rattle.steps.specs.Joining.{join_answer, join_list}
use Rattle.steps.proofs.Joins.{said, sorted-list, joined}
use Rattle.steps.proofs.join.Goals as goal
use Rattle.steps.proofs.join.Goals.{After-merge}

module _ (c : After-merge) where
  merged : (said c.merge.result ≡ join_answer (rows_from segments c.args.work.now 0 c.args.n))
      × (c.merge.new.work ≡ join_list c.args.work.now (rows_from segments c.args.work.now 0 c.args.n))
  merged =
      let xs = c.args.work.now in
      let n = c.args.n in
      let s = c.sort in
      joined xs n c.requires.n_le_segment_limit c.requires.n_in_bounds (sorted-list xs n c.requires.n_le_segment_limit c.requires.n_in_bounds {r = s.result} {ys = s.new.rows} (cc s.ensures.value) s.ensures.rows_after) c.merge.ensures.value c.merge.ensures.work_after

pub returns-in-Ok : goal.returns-in-Ok
unfolding said
returns-in-Ok c =
    let e = merged (goal.at.returns-in-Ok c).After-merge in
    record { value = cc (ap said c.in-Ok.is, e.0); work_after = e.1 }

pub returns-in-Err : goal.returns-in-Err
unfolding said
returns-in-Err c =
    let e = merged (goal.at.returns-in-Err c).After-merge in
    record { value = cc (ap said c.in-Err.is, e.0); work_after = e.1 }
