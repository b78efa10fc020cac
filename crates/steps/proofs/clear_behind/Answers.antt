-- The part behind the rows is cleared and put back.
use mathlib.Core.Path.{◌≡◌}
use Prim.Native.Nat.{◌-◌, ◌*◌}
use lib.IntN.{pos}
use lib.ListN.{length, replicate}
use borrow.Author.Rules.{rules}
use borrow.Rule.Slice.PartMut.{mid_of}
use Rattle.steps.proofs.Behind.{cleared-behind}
use Rattle.steps.proofs.clear_behind.Goals as goal

pub returns : goal.returns
returns c =
    let x = c.args in
    let zeros : c.fill.new.self ≡ replicate (length (mid_of (6 * x.m) (length x.work.now - 6 * x.m) x.work.now)) (pos 0) = search rules in
    cc (cleared-behind x.work.now x.m c.requires zeros)
