-- Each row is turned and written in its place; the rows still to come are those of the input from row i on.
use mathlib.Core.Path.{◌≡◌, refl, sym, ap, ◌∙◌}
use Prim.Native.Nat.{◌+◌}
use native.Mathlib.Omega.{arith}
use borrow.Author.Rules.{sfits_of}
use lib.ListN.{length}
use mir.Syntax.{w32}
use Rattle.whole.specs.Kind.{row_at, put_row}
use Rattle.whole.proofs.KindLaws.{length_put}
use Rattle.geom.specs.Rows.{segments}
use Rattle.segm.specs.Forward.{forward}
use Rattle.steps.proofs.Least.{countable}
use Rattle.steps.proofs.Turning.{to_come, come_step, come_end, come_all}
use Rattle.steps.proofs.begin.Goals as goal

pub loop-i-init : goal.loop-i-init
loop-i-init c = (omega arith, refl, refl)

pub forward-requires : goal.forward-requires
forward-requires c =
    let p = countable c.args.input.now c.args.n c.requires.n_value c.loop-i.i (omega arith) c.read-v.result (cc c.read-v.ensures) (sfits_of {w = w32} c.read-v.type_inv.1.1.1.1.0.1.1.0.1) (sfits_of {w = w32} c.read-v.type_inv.1.1.1.1.1.0.1.1.0.1) in
    record { countable = p.0; countable_2 = p.1 }

pub loop-i-preserved : goal.loop-i-preserved
loop-i-preserved c =
    let l = c.loop-i in
    let i = l.i in
    let input = c.args.input.now in
    let n = c.args.n in
    let v : c.forward.result ≡ forward (row_at segments input i) = cc (c.forward.ensures, c.read-v.ensures) in
    let stored : c.write.new.rows ≡ put_row segments l.work i (forward (row_at segments input i)) = cc (c.write.ensures, v) in
    (omega arith, ap length stored ∙ length_put segments l.work i (forward (row_at segments input i)) ∙ l.invariant.1, ap (to_come input n (i + 1)) stored ∙ sym (come_step input n i l.work (omega arith)) ∙ l.invariant.2)

pub shape_of-work : goal.shape_of-work
shape_of-work c = c.loop-i.invariant.1

pub returns : goal.returns
returns c =
    let l = c.loop-i in
    let input = c.args.input.now in
    cc (come_end input c.args.n l.i l.work (omega arith), l.invariant.2, come_all input c.args.n c.args.work.now (omega arith))
