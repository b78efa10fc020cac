-- `named`: an entry of one of n segments holds its number, so the number is not negative and its row is in the work list.
use mathlib.Core.Path.{◌≡◌, ap, ◌∙◌}
use lib.IntN.{pos, nat_abs}
use mir.Syntax.{w64}
use mir.Val.{SFits, to_z, of_z}
use mir.Facts.{to_z-of_z}
use native.Mathlib.Omega.{arith}
use borrow.Author.Rules.{rules}
use Rattle.scan.specs.declared.list.Entry.{Entry}
use Rattle.scan.specs.Scan.{segment_at}
use Rattle.scan.proofs.list.named.Goals as goal
use Rattle.scan.proofs.list.named.Goals.{Start}

fits : (c : Start) → SFits w64 c.args.t.segment
fits c = search rules

number : (c : Start) → c.args.t.segment ≡ pos c.requires.entry_of.number
number c = ap (λ (t : Entry). t.segment) c.requires.entry_of.is

value : (c : Start) → to_z w64 (of_z w64 c.args.t.segment) ≡ pos c.requires.entry_of.number
value c = to_z-of_z (let f : SFits w64 c.args.t.segment = search rules in f) ∙ number c

pub overflow_cast-t : goal.overflow_cast-t
overflow_cast-t c =
    let n = rw (number (goal.at.overflow_cast-t c).Start) at (fits (goal.at.overflow_cast-t c).Start) in
    rw (value (goal.at.overflow_cast-t c).Start) (tt, omega (arith, n.sfits))

pub read-requires : goal.read-requires
read-requires c = rw (value (goal.at.read-requires c).Start) (omega (arith, c.requires.n_in_bounds, c.requires.entry_of.small))

pub returns : goal.returns
returns c = c.read.ensures ∙ ap (λ z. segment_at c.args.work.now (nat_abs z)) (to_z-of_z (fits (goal.at.returns c).Start))
