-- A number below 10 is one digit; any other is the digits of a tenth of it, and its last one.
use mathlib.Core.Path.{sym}
use native.Mathlib.Omega.{arith}
use Rattle.text.specs.PutLaws.{put_none, put_more, put_as}
use Rattle.text.proofs.TextLaws.{digits_none, digits_one, digits_more}
use Rattle.text.proofs.+decimal.Goals as goal

pub returns-then-k-eq0-clause-put : goal.returns-then-k-eq0-clause-put
returns-then-k-eq0-clause-put t c = put_as (sym (digits_none c.args.n c.if-k-eq0.true)) put_none

pub returns-then-n-lt10-clause-put : goal.returns-then-n-lt10-clause-put
returns-then-n-lt10-clause-put t c = put_as (sym (digits_one {k = c.args.k} {n = c.args.n} (omega arith) c.if-n-lt10.true)) c.byte.ensures

pub returns-clause-put : goal.returns-clause-put
returns-clause-put t c = put_as (sym (digits_more {k = c.args.k} {n = c.args.n} (omega arith) c.if-n-lt10.false)) (put_more c.decimal-a.ensures.put c.byte-2.ensures)
