-- One part behind the other.
use native.Mathlib.Omega.{arith}
use Rattle.text.specs.PutLaws.{put_more}
use Rattle.text.specs.Text.{head}
use Rattle.text.proofs.head.Goals as goal

pub returns : goal.returns
unfolding head
returns c =
    let first = c.decimal-a.ensures in
    let gap = c.byte-b.ensures in
    let second = c.decimal-c.ensures in
    let end = c.byte.ensures in
    record { put = put_more (put_more (put_more first.put gap) second.put) end; upper_bound = omega (arith, first.upper_bound, gap.place, second.upper_bound, end.place) }
