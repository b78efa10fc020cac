-- `apply::run_start` meets its contract. The loop's invariant: the marks before number a have the same start of the run.
use Prim.Native.Nat.{◌+◌, ◌-◌}
use mathlib.Core.Path.{◌≡◌, sym, ap, ◌∙◌}
use native.Mathlib.Omega.{arith}
use lib.IntN.{pos}
use Rattle.geom.specs.Plane.{sameZ}
use Rattle.apply.proofs.Runs.{start-more, start-here, start_none}
use Rattle.apply.proofs.run_start.Goals as goal

pub returns-then-not-is_of : goal.returns-then-not-is_of
returns-then-not-is_of c =
    let l = c.loop-a in
    let x = c.args in
    let t = sym (ap (λ m. sameZ m.segment (pos x.i)) c.read.ensures) ∙ sym c.is_of.ensures ∙ c.if-not-is_of.true in
    let a : l.a - 1 + 1 ≡ l.a = omega arith in
    record { value = a ∙ sym (start-here x.i x.marks.now l.a (omega arith) t) ∙ l.invariant.1; upper_bound = omega arith }

pub loop-a-preserved : goal.loop-a-preserved
loop-a-preserved c =
    let l = c.loop-a in
    let x = c.args in
    let t = sym (ap (λ m. sameZ m.segment (pos x.i)) c.read.ensures) ∙ sym c.is_of.ensures ∙ c.if-not-is_of.false in
    (omega arith, sym (start-more x.i x.marks.now l.a (omega arith) t) ∙ l.invariant.1)

pub returns : goal.returns
returns c =
    let l = c.loop-a in
    let x = c.args in
    let z : 0 ≡ l.a = omega arith in
    record { value = z ∙ sym (start_none x.i x.marks.now l.a (omega arith)) ∙ l.invariant.1; upper_bound = omega arith }
