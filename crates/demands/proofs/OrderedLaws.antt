-- Every list of a run of segments on the grid and with length is on the grid, forward, and strictly in order by its ends, so no two of its segments are equal
-- ("The run", "Merge").
use Rattle.std.specs.Prelude.{List}
use Rattle.whole.specs.Sum.{All, none, also}
use Rattle.whole.proofs.SumLaws.{all_map, all-over, all-sort}
use Rattle.geom.specs.declared.Point.{Point}
use Rattle.geom.specs.declared.Segment.{Segment}
use Rattle.geom.specs.Plane.{GridPoint, Before}
use Rattle.segm.specs.Forward.{forward, in_order, sorted}
use Rattle.segm.specs.ForwardLaws.{forward-grid, forward_runs}
use Rattle.segm.specs.Merge.{merged}
use Rattle.segm.proofs.MergeLaws.{merged-ends, sorted_merged}
use Rattle.demands.specs.Chain.{start, Looks, empty, done, again}
use Rattle.demands.specs.Pieces.{Good}
use Rattle.demands.proofs.PiecesLaws.{cut_is_good}
use Rattle.demands.specs.Ordered.{Fit, Ordered}

-- the same said of the two ends
abbrev GoodEnds : Point → Point → Type 0
GoodEnds p q = (GridPoint p × GridPoint q) × Before p q

merged-ordered : {L : List Segment} → All Good L → Ordered (merged (sorted L))
merged-ordered {L} h = record {
  good = all_map (λ t e. (record { a = e.0.0; b = e.0.1 }, e.1)) (merged-ends GoodEnds (all-sort in_order (all_map (λ t g. ((g.0.a, g.0.b), g.1)) h)));
  strict = sorted_merged L;
}

looks-ordered : {L K : List Segment} {Ls : List (List Segment)} → Looks L Ls K → Ordered L → All Ordered Ls × Ordered K
looks-ordered empty h = (none, h)
looks-ordered (done n e) h = (also h none, h)
looks-ordered (again n k) h = let r = looks-ordered k (merged-ordered (cut_is_good h.good)) in (also h r.0, r.1)

-- THE THEOREM
pub all-ordered : {L K : List Segment} {Ls : List (List Segment)} → Looks (start L) Ls K → All Fit L → All Ordered Ls × Ordered K
all-ordered c h = looks-ordered c (merged-ordered (all-over forward (all_map (λ v f. (forward-grid v f.0, forward_runs v f.1)) h)))
