-- Balanced (demand 3): what starts at a point counts as much as what ends there, for either side, in every list that the run makes of a closed one. Turning
-- forward, sorting, merging and splitting each keep the boundary of a list (crate laws).
use Rattle.std.proofs.Common.{sym, ◌∙◌}
use Rattle.std.specs.Prelude.{List, map}
use Rattle.whole.specs.Sum.{All, none, also}
use Rattle.whole.proofs.SumLaws.{all_map}
use Rattle.geom.specs.declared.Segment.{Segment}
use Rattle.geom.specs.Plane.{count}
use Rattle.segm.specs.Forward.{forward, sorted}
use Rattle.segm.specs.Merge.{merged}
use Rattle.segm.specs.Balance.{Balanced}
use Rattle.split.specs.Look.{look, tidy}
use Rattle.laws.proofs.StepsLaws.{keeps}
use Rattle.laws.proofs.Prepared.{∂-forward, ∂-sorted, ∂-merging}
use Rattle.laws.proofs.Cuts.{split-balanced}
use Rattle.overlay.specs.Looks.{radius}
use Rattle.demands.specs.Chain.{start, cut, Looks, empty, done, again}
use Rattle.demands.specs.Even.{AllEven, Even}

turned_even : (L : List Segment) → Even L → Even (map forward L)
turned_even L h d = keeps (count d) (count d) L (map forward L) (λ φ. sym (∂-forward d φ L)) (h d)

merged_even : (L : List Segment) → Even L → Even (merged (sorted L))
merged_even L h d = keeps (count d) (count d) L (merged (sorted L)) (λ φ. sym (∂-merging d φ (sorted L) ∙ ∂-sorted d φ L)) (h d)

cut_even : (L : List Segment) → Even L → Even (cut L)
cut_even L h d = (split-balanced d (tidy (look radius L)) L).0 (h d)

looks_even : {L K : List Segment} {Ls : List (List Segment)} → Looks L Ls K → Even L → All Even Ls × Even K
looks_even empty h = (none, h)
looks_even (done n e) h = (also h none, h)
looks_even {L} (again n k) h = let r = looks_even k (merged_even (cut L) (cut_even L h)) in (also h r.0, r.1)

-- THE THEOREM
pub all_even : {L K : List Segment} {Ls : List (List Segment)} → Looks (start L) Ls K → Even L → AllEven L Ls K
unfolding Balanced
all_even {L} c h =
    let t = turned_even L (λ d p. cc (h d p)) in
    let r = looks_even c (merged_even (map forward L) t) in
    record {
      turned = t;
      looked = r.0;
      split = all_map cut_even r.0;
      merged = all_map (λ M k. merged_even (cut M) (cut_even M k)) r.0;
      final = r.1;
    }
