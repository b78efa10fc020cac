-- The numbers before what stands behind them are the numbers put into the list.
use Rattle.std.proofs.Common.{◌≡◌, ◌*◌, ◌≤◌, ◌++◌, length, drop, sym, rules, arith, length-take-le}
use Rattle.std.proofs.lemmas.List.Edits.{sets}
use Rattle.wire.specs.Bytes.{numbers_from}
use Rattle.wire.specs.Asked.{is_taken, decoded_list}
use Rattle.wire.proofs.BytesLaws.{at_front}
use Rattle.wire.proofs.decode.Goals as goal

pub returns-clause-input_after : goal.returns-clause-input_after
unfolding is_taken decoded_list
returns-clause-input_after c =
    let bs = c.args.bytes.now in
    let input = c.args.input.now in
    let n = 6 * c.word-n.result in
    let fits : n ≤ length input = omega arith in
    let all : c.numbers.new.input ++ drop n input ≡ sets input 0 (numbers_from bs 17 n) = rw (c.numbers.ensures, length-take-le n input fits) (sym (at_front bs 17 n input fits)) in
    rw all (search rules)
