-- What starts at a point less what ends there, for both counts at once: the code's way to test refusal 6.
use Rattle.std.specs.Prelude.{Bool, not, cond, ◌&&◌, ◌||◌, List, [], ◌∷◌, ℤ, pos, ◌+ℤ◌, ◌-ℤ◌}
use Rattle.geom.specs.declared.Point.{Point}
use Rattle.geom.specs.declared.Segment.{Segment}
use Rattle.geom.specs.Plane.{sameZ, same_point}
use Rattle.outlines.specs.declared.Net.{Net}

-- a sum z and the count c of one segment more: added where it starts, taken away where it ends
unfoldable pub changed_by : Bool → Bool → ℤ → ℤ → ℤ
changed_by starts ends c z = cond starts (cond ends z (z +ℤ c)) (cond ends (z -ℤ c) z)

unfoldable pub counted_at : Point → Net → Segment → Net
counted_at p net v =
    let change = changed_by (same_point p v.a) (same_point p v.b) in
    record { subject = change v.subject.0 net.subject; clip = change v.clip.0 net.clip }

unfoldable pub net_from : Point → Net → List Segment → Net
net_from p net [] = net
net_from p net (v ∷ L) = net_from p (counted_at p net v) L

abbrev pub nothing : Net
nothing = record { subject = pos 0; clip = pos 0 }

abbrev pub net_at : Point → List Segment → Net
net_at p L = net_from p nothing L

abbrev pub is_uneven : Net → Bool
is_uneven net = not (sameZ net.subject (pos 0) && sameZ net.clip (pos 0))

-- at an end of v what starts in L is not what ends
unfoldable pub has_open_end : List Segment → Segment → Bool
has_open_end L v = is_uneven (net_at v.a L) || is_uneven (net_at v.b L)
