-- `drop_repeats` meets its contract: the pass that gives each mark which differs from the one before, made in place. A repeat is equal to the mark before it,
-- so that one goes on standing for it.
use mathlib.Core.Path.{◌≡◌, refl}
use mathlib.Core.Bool.{true, false}
use native.Mathlib.Omega.{arith}
use Rattle.whole.specs.Distinct.{distinct, differing}
use Rattle.whole.proofs.DistinctLaws.{distinct-first}
use Rattle.whole.specs.Kind.{row_at, flat, rows_from, front}
use Rattle.whole.proofs.PassLaws.{going-first, going_skip, going_put, done}
use Rattle.geom.specs.Tests.{when_true}
use Rattle.split.specs.Marks.{marks as rows}
use Rattle.split.specs.Look.{same_mark}
use Rattle.split.proofs.Tidying.{same_mark?}
use Rattle.split.proofs.Derived.{eq_is_same_mark}
use Rattle.split.proofs.tidy.drop_repeats.Goals as goal
use Rattle.split.proofs.tidy.drop_repeats.Goals.{then-ne, else-ne}

pub returns-then-count-eq0 : goal.returns-then-count-eq0
unfolding distinct rows_from flat front
returns-then-count-eq0 c = rw c.if-count-eq0.true (record { number = refl; list = refl })

pub loop-i-init : goal.loop-i-init
loop-i-init c =
    let xs = c.args.marks.now in (
      omega arith,
      omega arith,
      omega arith,
      rw (c.read-last.ensures, distinct-first rows same_mark xs c.args.count (omega arith)) (going-first rows (differing same_mark) xs c.args.count 1 (row_at rows xs 0) (omega arith)),
    )

pub loop-i-preserved : goal.loop-i-preserved
loop-i-preserved c =
    let l = c.loop-i in
    let g = l.invariant.3 in
    let m = c.read-m.result in
    elim c.if-ne.branch [
      | then-ne w ↦
          let t : same_mark l.last m ≡ false = grind (arith, eq_is_same_mark) in
          rw (w.marks-is, w.last-is, w.kept-is) (omega arith, omega arith, omega arith, going_put rows (differing same_mark) g m m (omega arith) c.read-m.ensures (rw t) (omega arith) w.write.ensures)
      | else-ne w ↦
          let t : same_mark l.last m ≡ true = grind (arith, eq_is_same_mark) in
          let e = when_true (same_mark? l.last m) t in
          rw (w.marks-is, w.last-is, w.kept-is) (omega arith, omega arith, omega arith, rw e (going_skip rows (differing same_mark) g m (omega arith) c.read-m.ensures (rw t)))
    ]

pub returns : goal.returns
returns c =
    let d = done rows (differing same_mark) c.loop-i.invariant.3 (omega arith) refl (omega arith) (omega arith) in
    record { number = d.0; list = d.1 }
