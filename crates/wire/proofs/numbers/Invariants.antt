-- The numbers so far are those of the bytes.
use Rattle.std.proofs.Common.{◌≡◌, take}
use Rattle.wire.specs.Bytes.{numbers_from}
use Rattle.wire.proofs.numbers.Given as goal

abbrev pub invariant-loop-i : goal.invariant-loop-i
invariant-loop-i l = take l.i l.input ≡ numbers_from l.bytes 17 l.i
