-- One part behind the other.
use mathlib.Core.Path.{ap, sym}
use mathlib.Core.List.{append-nil}
use native.Mathlib.Omega.{arith}
use mir.Facts.{to_z-of_z}
use Rattle.text.specs.PutLaws.{put_more, put_as}
use Rattle.text.specs.Text.{number, spaced}
use Rattle.text.proofs.pair.Goals as goal

pub returns : goal.returns
unfolding spaced
returns c =
    let first = c.number-a.ensures in
    let gap = c.byte-b.ensures in
    let second = c.number-c.ensures in
    let end = c.byte.ensures in
    record { put = put_more (put_more (put_as (ap number (to_z-of_z c.ranges.x)) first.put) gap) (put_as (sym (append-nil _)) (put_more (put_as (ap number (to_z-of_z c.ranges.y)) second.put) end)); upper_bound = omega (arith, first.upper_bound, gap.place, second.upper_bound, end.place) }
