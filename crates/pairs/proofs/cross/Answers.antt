-- `pairs::cross` meets its contract: segments that pass the first test are on the grid.
use Rattle.std.proofs.Common.{◌≡◌, true, arith}
use Rattle.std.proofs.lemmas.Bool.Decides.{nat_tests}
use Rattle.geom.specs.Plane.{grid_segment}
use Rattle.geom.specs.Tests.{when_true}
use Rattle.geom.proofs.TestsLaws.{grid_segment?}
use Rattle.pairs.proofs.cross.Goals as goal

pub crossing-requires-clause-grid_segment : goal.crossing-requires-clause-grid_segment
crossing-requires-clause-grid_segment c =
    let e : grid_segment c.args.target ≡ true = grind (arith, nat_tests) in
    when_true (grid_segment? c.args.target) e

pub crossing-requires-clause-grid_segment_2 : goal.crossing-requires-clause-grid_segment_2
crossing-requires-clause-grid_segment_2 c =
    let e : grid_segment c.args.other ≡ true = grind (arith, nat_tests) in
    when_true (grid_segment? c.args.other) e
