-- Settled (demand 1): a look without marks at an ordered list leaves every two of its edges apart, and so with no common point but ends of both
-- ("Points off the grid": said of all X, Y, d).
use Rattle.std.specs.Prelude.{List}
use Rattle.whole.specs.Sum.{none, Pairs, no_pair}
use Rattle.whole.proofs.SumLaws.{pairs_map}
use Rattle.geom.specs.declared.Segment.{Segment}
use Rattle.plane.proofs.Ends.{apart-ends}
use Rattle.laws.specs.Settled.{Settled}
use Rattle.demands.specs.Chain.{Looks, empty, done, again}
use Rattle.demands.specs.Ordered.{Ordered}
use Rattle.demands.specs.Settled.{MeetAtEnds, unmarked-settled}

pub looks-settled : {L K : List Segment} {Ls : List (List Segment)} → Looks L Ls K → Ordered K → Settled K
looks-settled empty o = record { forward = none; apart = no_pair }
looks-settled (done n e) o = unmarked-settled e o
looks-settled (again n k) o = looks-settled k o

-- THE THEOREM: every two edges
pub meet_at_ends : {L : List Segment} → Settled L → Pairs MeetAtEnds L
meet_at_ends s = pairs_map (λ e f h k a P. apart-ends h k a) s.forward s.apart
