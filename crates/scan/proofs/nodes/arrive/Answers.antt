-- `arrive`: rows at the front and rows added behind them are one list; without order it is the rows that come to an empty list.
use Prim.Native.Nat.{◌-◌}
use native.Mathlib.Nat.{sub-zero}
use native.Mathlib.Omega.{arith}
use Rattle.whole.specs.Kind.{rows_from}
use Rattle.whole.specs.Sum.{keep}
use Rattle.scan.specs.Scan.{entries, entries_from, live_at}
use Rattle.scan.proofs.Holding.{joined, anew}
use Rattle.scan.proofs.Adding.{none_is}
use Rattle.scan.proofs.Walking.{known, known-none}
use Rattle.scan.proofs.nodes.arrive.Goals as goal

pub stay-s-requires : goal.stay-s-requires
stay-s-requires c =
    let p = c.requires in
    record { n_in_bounds = p.n_in_bounds.0; on_grids = p.on_grids; grid_point = p.grid_point; used_in_bounds = (omega arith, omega arith); all = p.all }

pub returns-then-sorted : goal.returns-then-sorted
returns-then-sorted c =
    let a = c.args in
    let test = live_at a.work.now a.p in
    let g = c.stay-s.ensures in
    rw (c.if-sorted.true, c.node_of.ensures)
    (record { holds = joined c.requires.n_in_bounds.1 (keep test (rows_from entries a.scan.now 0 a.used)) (keep test (entries_from a.work.now a.i (a.e - a.i))) (omega (arith, g.within)) g.number g.list c.enter-all.ensures; known = known g })

pub returns : goal.returns
returns c =
    rw (c.if-sorted.false, none_is c.default.ensures)
    (record { holds = anew c.requires.n_in_bounds.1 (rw (sub-zero c.args.n) at c.enter-all-2.ensures); known = known-none })
