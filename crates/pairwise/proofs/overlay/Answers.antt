-- `overlay` meets its contract: the bits of the mask are the definition's four tests, and the marks of four pushes follow one another.
use Rattle.whole.specs.AppendLaws.{added_more}
use Rattle.split.specs.Look.{line_marks}
use Rattle.pairwise.proofs.MaskBits.{mask_bits}
use Rattle.pairwise.proofs.overlay.Goals as goal

pub returns : goal.returns
unfolding line_marks
returns c =
    let a = c.args.couple in
    let b = rw (← c.collinear-mask.ensures) at (mask_bits a.target a.other) in
    rw (← b.first, ← b.second, ← b.third, ← b.fourth) (added_more (added_more (added_more c.push_if-c1.ensures.added c.push_if-c2.ensures.added) c.push_if-c3.ensures.added) c.push_if.ensures.added)
