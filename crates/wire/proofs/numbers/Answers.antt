-- The number written is the next one of the bytes.
use Rattle.std.proofs.Common.{arith}
use Rattle.std.proofs.lemmas.List.{take_more_set}
use mir.Syntax.{w32}
use mir.Val.{to_z, of_z}
use mir.Facts.{to_z-of_z}
use borrow.Author.Rules.{sfits_of}
use Rattle.wire.proofs.BytesLaws.{one_more}
use Rattle.wire.proofs.numbers.Goals as goal

pub loop-i-preserved : goal.loop-i-preserved
loop-i-preserved c =
    let l = c.loop-i in
    let z = to_z w32 (of_z w32 c.signed.result) in
    cc (take_more_set l.input l.i z (omega arith), one_more c.args.bytes.now 17 l.i, to_z-of_z {w = w32} (sfits_of c.signed.type_inv), c.signed.ensures, c.word.ensures)
