-- `segm::merge_rows` meets its contract. The loop's invariant is `Run`: w rows are written, and the group g is open; each need cites the law of its event.
use mathlib.Core.Path.{◌≡◌, refl, sym, ap, ◌∙◌}
use mathlib.Core.Bool.{Bool, true, false, cond}
use Prim.Native.Nat.{ℕ}
use borrow.Author.Rules.{rules}
use Rattle.std.specs.Prelude.{Result, Ok, Err}
use Rattle.geom.specs.declared.Segment.{Segment}
use Rattle.groups.specs.Group.{alone as alone_of, far_group}
use Rattle.segm.specs.declared.MergeError.{MergeError}
use Rattle.segm.specs.declared.MergeError.TheVariants.{TooBig}
use Rattle.segm.proofs.Run.{run_start, run_join, run_close, run_end, far_now, far_then, too_big_lem}
use Rattle.segm.proofs.merge_rows.Goals as goal
use Rattle.segm.proofs.merge_rows.Goals.{then-same_ends, else-same_ends+in_ok-w}

-- what an answer of `close` says of the group

outside : (far : Bool) (k : ℕ) {e : MergeError} → ◌≡◌ {A = Result ℕ MergeError} (Err e) (cond far (Err TooBig) (Ok k)) → (far ≡ true) × (e ≡ TooBig)
outside true k p = (refl, cc)
outside false k p = cc

within : (far : Bool) (k : ℕ) {m : ℕ} → ◌≡◌ {A = Result ℕ MergeError} (Ok m) (cond far (Err TooBig) (Ok k)) → (far ≡ false) × (m ≡ k)
within true k p = cc
within false k p = (refl, cc)

pub loop-i-init : goal.loop-i-init
loop-i-init c =
    run_start c.args.work.now c.args.n c.requires.n_nonzero (c.alone-g.ensures.value ∙ ap (λ (v : Segment). alone_of v false) c.read.ensures) c.alone-g.ensures.subject_bound

pub returns-in_err-w : goal.returns-in_err-w
returns-in_err-w c =
    let r = c.loop-i.invariant in
    let f = outside (far_group c.loop-i.g) _ c.in_err-w.ensures.value in
    let p = too_big_lem r (far_now r c.loop-i-test.true c.read-v.ensures (sym c.same_ends.ensures ∙ c.if-same_ends.false) f.0) (rw f.0 at c.in_err-w.ensures.work_after) in
    let e : c.from_residual.result ≡ Err c.in_err-w.field-0.0 = search rules in
    record { value = e ∙ ap (λ x. Err x) f.1 ∙ p.0; work_after = p.1 }

pub loop-i-preserved : goal.loop-i-preserved
loop-i-preserved c =
    let r = c.loop-i.invariant in
    elim c.if-same_ends.branch [
      | then-same_ends w ↦
          rw (w.work-is, w.g-is, w.w-is) (run_join r c.loop-i-test.true c.read-v.ensures (sym c.same_ends.ensures ∙ w.if-same_ends.true) w.join-g.ensures.value w.join-g.ensures.subject_bound_2)
      | else-same_ends+in_ok-w w ↦
          let f = within (far_group c.loop-i.g) _ w.in_ok-w.ensures.value in
          let alone = w.alone-g-else-same_ends.ensures in
          rw (w.work-is, w.g-is, w.w-is) (run_close r c.loop-i-test.true c.read-v.ensures (sym c.same_ends.ensures ∙ w.if-same_ends.false) f.0 f.1 (rw f.0 at w.in_ok-w.ensures.work_after) alone.value alone.subject_bound)
    ]

pub returns-in_err-left : goal.returns-in_err-left
returns-in_err-left c =
    let r = c.loop-i.invariant in
    let f = outside (far_group c.loop-i.g) _ c.in_err-left.ensures.value in
    let p = too_big_lem r (far_then r c.loop-i-test.false f.0) (rw f.0 at c.in_err-left.ensures.work_after) in
    let e : c.from_residual-in_err-left.result ≡ Err c.in_err-left.field-0.0 = search rules in
    record { value = e ∙ ap (λ x. Err x) f.1 ∙ p.0; work_after = p.1 }

pub returns : goal.returns
returns c =
    let f = within (far_group c.loop-i.g) _ c.in_ok-left.ensures.value in
    let p = run_end c.loop-i.invariant c.loop-i-test.false c.requires.n_in_bounds f.0 f.1 (rw f.0 at c.in_ok-left.ensures.work_after) in
    record { value = p.0; work_after = p.1 }
