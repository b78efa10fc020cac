-- How two segments asked alone cross, in document 01's numbers ("Crossing").
use Rattle.std.specs.Prelude.{Bool, cond, List, ℕ, ◌+◌, eqb, ℤ, pos, length}
use Rattle.geom.specs.declared.Point.{Point}
use Rattle.geom.specs.declared.Segment.{Segment}
use Rattle.geom.specs.Plane.{segment}
use Rattle.geom.specs.Rows.{point_from}
use Rattle.cross.specs.Cross.{bit}
use Rattle.cross.specs.Said.{Said, only, cross_said}
use Rattle.cabi.specs.declared.CrossReport.{CrossReport}

-- the segment whose four numbers start at place k; a crossing does not ask for counts
abbrev pub segment_from : List ℤ → ℕ → Segment
segment_from l k = segment (point_from l k) (point_from l (k + 2)) (pos 0) (pos 0)

abbrev pub at_point : ℕ → Point → Bool → ℕ → Said
at_point kind p rounded mask = record { answer = 0; kind = kind; x = p.x.0; y = p.y.0; rounded = bit rounded; mask = mask }

abbrev pub report_of : Said → CrossReport
report_of s = record { answer = s.answer; kind = s.kind; x = s.x; y = s.y; rounded = s.rounded; mask = s.mask }

-- eight numbers are target and other, at the squared radius 2; another length is answered 1
unfoldable pub cross_report : List ℤ → CrossReport
cross_report l =
    let r = cross_said 2 (segment_from l 0) (segment_from l 4) in
    report_of (cond (eqb (length l) 8) r (only 1))
