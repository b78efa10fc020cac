-- The list that a run begins with ("The run"): segments turned to run forward, each by `forward` of directions, in order.
use Rattle.std.specs.Prelude.{Bool, List}
use Rattle.std.specs.Int.Signed.{lt_z}
use Rattle.whole.specs.Lex.{lex}
use Rattle.whole.specs.Sorting.{sort}
use Rattle.geom.specs.declared.Segment.{Segment}
use Rattle.geom.specs.Rows.{numbers}
unfoldable pub use Rattle.directions.specs.Forward.{forward}

-- by a, then b; and then by the counts, so that the order of a list is fixed by what it holds
abbrev pub in_order : Segment → Segment → Bool
in_order u v = lex lt_z (numbers u) (numbers v)

abbrev pub sorted : List Segment → List Segment
sorted L = sort in_order L
