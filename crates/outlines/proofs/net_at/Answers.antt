-- `outlines::net_at` meets its contract: the loop keeps `Tally`, and each need is the law of its event.
use native.Mathlib.Omega.{arith}
use Rattle.outlines.proofs.Tally.{tally_start, tally_next, tally_end}
use Rattle.outlines.proofs.net_at.Goals as goal

pub loop-j-init : goal.loop-j-init
loop-j-init c = tally_start c.args.p c.args.rows.now c.args.n

pub read-requires : goal.read-requires
read-requires c = omega (arith, c.requires.n_in_bounds)

pub counted-net-requires : goal.counted-net-requires
counted-net-requires c =
    record { subject_bound = omega (arith, c.loop-j.invariant.subject, c.requires.n_bound); clip_bound = omega (arith, c.loop-j.invariant.clip, c.requires.n_bound) }

pub loop-j-preserved : goal.loop-j-preserved
loop-j-preserved c =
    tally_next c.loop-j.invariant c.loop-j-test.true c.read.ensures (c.counted-net.ensures.value, c.counted-net.ensures.subject_bound_2)

pub returns : goal.returns
returns c = tally_end c.loop-j.invariant c.loop-j-test.false
