-- When merging answers which number (`enough`, `also-said`), and what it gives, from what the groups of equal neighbours have: merged L is some of `groups L` in their order. So its ends are ends of L
-- (`merged-ends`), it is no longer (`merged-length`), its counts are within ±(2^31 - 1) unless 9 is answered (`merged-near`), and of a list that stands by
-- its ends no two are left with the same ends (`merged-strict`).
use Rattle.std.specs.Prelude.{◌≤◌, nat_abs}
use Rattle.geom.specs.declared.Segment.{Segment}
use Rattle.geom.specs.Plane.{Side, count}

-- ---- counts

-- both counts within ±(2^31 - 1)
abbrev pub Near : Segment → Type 0
Near t = (d : Side) → nat_abs (count d t) ≤ 2147483647
