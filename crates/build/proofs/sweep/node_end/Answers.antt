-- `node_end`: the segments met so far start where the first does.
use mathlib.Core.Bool.{Bool, true, false, not}
use mathlib.Core.Path.{◌≡◌, refl, sym, ap, ◌∙◌}
use mathlib.Core.Logic.{◌⊎◌, ⊎_elim}
use Prim.Native.Nat.{ℕ, ◌+◌, ◌≤◌, ◌<◌}
use native.Mathlib.Nat.{eq-or-lt_of_le, not-le_of_lt}
use native.Mathlib.Omega.{arith}
use Rattle.geom.specs.declared.Segment.{Segment}
use Rattle.geom.specs.Plane.{same_point}
use Rattle.geom.specs.Tests.{when_true}
use Rattle.geom.proofs.Derived.{eq_is_same_point}
use Rattle.geom.proofs.TestsLaws.{same_point?}
use Rattle.scan.specs.Scan.{segment_at}
use Rattle.build.proofs.sweep.node_end.Goals as goal
use Rattle.build.proofs.sweep.node_end.Goals.{After-ne}

is_not_false : {b : Bool} → not b ≡ false → b ≡ true
is_not_false {b = true} e = refl
is_not_false {b = false} e = sym e

is_not_true : {b : Bool} → not b ≡ true → b ≡ false
is_not_true {b = true} e = sym e
is_not_true {b = false} e = refl

last : (k j : ℕ) → k < j + 1 → (k ≡ j) ⊎ (k < j)
last k j h = let l : k ≤ j = omega arith in eq-or-lt_of_le l

tested : (c : After-ne) → let a = c.args in c.ne.result ≡ not (same_point (segment_at a.work.now a.i).a (segment_at a.work.now c.loop-j.j).a)
tested c =
    let a = c.args in
    c.ne.ensures ∙ ap not (eq_is_same_point c.read-v.result.a c.read-t.result.a) ∙ ap (λ (u : Segment). not (same_point u.a c.read-t.result.a)) c.read-v.ensures ∙ ap (λ (u : Segment). not (same_point (segment_at a.work.now a.i).a u.a)) c.read-t.ensures

pub loop-j-init : goal.loop-j-init
loop-j-init c = (omega arith, omega arith, λ k l h. let e : c.args.i ≡ k = omega arith in rw e)

pub loop-j-preserved : goal.loop-j-preserved
loop-j-preserved c =
    let a = c.args in
    let w = a.work.now in
    (omega arith, omega arith, λ k h m. ⊎_elim (λ e. rw e (when_true (same_point? (segment_at w a.i).a (segment_at w c.loop-j.j).a) (is_not_false (sym (tested (goal.at.loop-j-preserved c).After-ne) ∙ c.if-ne.false)))) (λ q. c.loop-j.invariant.2 k h q) (last k c.loop-j.j m))

pub returns-then-ne : goal.returns-then-ne
returns-then-ne c =
    record { after = c.loop-j.invariant.0; within = omega arith; same = c.loop-j.invariant.2; next = λ h. is_not_true (sym (tested (goal.at.returns-then-ne c).After-ne) ∙ c.if-ne.true) }

pub returns : goal.returns
returns c =
    record { after = omega arith; within = omega arith; same = λ k h m. c.loop-j.invariant.2 k h (omega arith); next = λ h. absurd (not-le_of_lt h (omega arith)) }
