-- Bytes that are not whole get the line `1 0`.
use Rattle.std.proofs.Common.{rules}
use Rattle.wire.specs.Asked.{decoded_as}
use Rattle.text.proofs.TextLaws.{written-refusal}
use Rattle.overlay_main.specs.Reply.{reply}
use Rattle.overlay_main.proofs.reply.Goals as goal

pub returns-in-None-clause-put : goal.returns-in-None-clause-put
unfolding decoded_as reply
returns-in-None-clause-put c = let one = written-refusal 1 c.args.work.now c.args.masks.now in search rules
