-- The lines still to come, put from the next place on, make up what is promised. A line has at most 153 bytes.
use mathlib.Core.Path.{◌≡◌}
use Prim.Native.Nat.{◌-◌, ◌<◌}
use lib.ListN.{length}
use native.Mathlib.Nat.{sub-zero}
use native.Mathlib.Omega.{arith}
use Rattle.text.specs.PutLaws.{coming-all, coming-step, coming-none}
use Rattle.text.specs.Text.{lines_from}
use Rattle.text.proofs.TextLaws.{lines_first}
use Rattle.text.proofs.lines.Goals as goal

pub loop-i-init : goal.loop-i-init
loop-i-init c = (omega arith, omega arith, rw (sub-zero (length c.args.bytes.now)) coming-all)

pub line-next-requires : goal.line-next-requires
line-next-requires c = record { at_bound = omega arith; i_in_bounds = omega arith }

pub loop-i-preserved : goal.loop-i-preserved
loop-i-preserved c =
    let l = c.loop-i in
    let x = c.args in
    let h : l.i < length x.bytes.now = omega arith in
    let p = c.line-next.ensures in
    (omega arith, omega (arith, p.upper_bound), coming-step l.invariant.2 (lines_first x.rows.now x.bytes.now (length x.bytes.now) l.i h) p.put)

pub shape_of-out : goal.shape_of-out
shape_of-out c = c.loop-i.invariant.2.kept

pub returns : goal.returns
unfolding lines_from
returns c =
    let l = c.loop-i in
    let x = c.args in
    let none : length x.bytes.now - l.i ≡ 0 = omega arith in
    record { put = coming-none l.invariant.2 (rw none); upper_bound = omega (arith, l.invariant.1) }
