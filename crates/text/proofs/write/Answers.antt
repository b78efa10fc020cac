-- The head and the lines behind it, of the bytes that the rows have.
use Rattle.std.proofs.Common.{◌≡◌, ◌++◌, length, take, ap, sym, ◌∙◌, arith, length-take-le}
use Rattle.overlay.specs.Numbers.{told}
use Rattle.report.specs.declared.Report.{Report}
use Rattle.text.specs.PutLaws.{put_more, put_as}
use Rattle.text.specs.Text.{head, lines_from}
use Rattle.text.proofs.TextLaws.{lines_taken, written_all}
use Rattle.text.proofs.write.Goals as goal

pub returns-clause-put : goal.returns-clause-put
returns-clause-put c =
    let x = c.args in
    let rows = x.rows.now in
    let bytes = x.bytes.now in
    let m = c.of-t.result.segments in
    let e = ap (λ (r : Report). r.segments) c.of-t.ensures in
    let all = written_all (told x.a) rows bytes (omega (arith, e, c.if-m-gt2048.false)) (omega (arith, e, c.if-rows-m.false)) (omega (arith, e, c.if-bytes-m.false)) in
    let same = ap (λ (r : Report). head r.answer r.segments ++ lines_from rows bytes 0 r.segments) c.of-t.ensures in
    let taken : lines_from rows (take m bytes) 0 (length (take m bytes)) ≡ lines_from rows bytes 0 m = rw (length-take-le m bytes (omega arith)) (lines_taken rows bytes m 0 m (omega arith)) in
    put_as (same ∙ sym all) (put_more c.head-at.ensures.put (put_as taken c.lines.ensures.put))
