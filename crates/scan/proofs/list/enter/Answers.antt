-- `enter`: entry after entry is added where its segment is live (Coming).
use mathlib.Core.Path.{◌≡◌, sym, ap, ◌∙◌}
use Prim.Native.Nat.{◌+◌, ◌-◌}
use native.Mathlib.Omega.{arith}
use Rattle.whole.specs.AppendLaws.{coming-all, coming-none}
use Rattle.whole.proofs.AppendLaws.{coming-step}
use Rattle.whole.specs.Sum.{keep}
use Rattle.whole.proofs.SumLaws.{keep-yes, keep_no}
use Rattle.edges.specs.Below.{live}
use Rattle.scan.specs.Scan.{segment_at, entry_of, entries_from, live_at}
use Rattle.scan.proofs.Entries.{entries-step, entries-done}
use Rattle.scan.proofs.list.enter.Goals as goal
use Rattle.scan.proofs.list.enter.Goals.{After-is_live}

tested : (c : After-is_live) → let a = c.args in c.is_live.result ≡ live a.p (segment_at a.work.now c.loop-k.k)
tested c = let a = c.args in c.is_live.ensures ∙ ap (live a.p) c.read-v.ensures

pub loop-k-init : goal.loop-k-init
loop-k-init c = (omega arith, omega arith, omega arith, coming-all)

pub push-count-requires : goal.push-count-requires
push-count-requires c =
    record { room_in_bounds = omega (arith, c.loop-k.invariant.3.kept); count_bound = omega arith }

pub loop-k-preserved : goal.loop-k-preserved
loop-k-preserved c =
    let a = c.args in
    let w = a.work.now in
    let k = c.loop-k.k in
    let t = entry_of k (segment_at w k) in
    let rest = entries_from w (k + 1) (a.e - (k + 1)) in
    let same : c.entry_of.result ≡ t = c.entry_of.ensures ∙ ap (entry_of k) c.read-v.ensures in
    let more = ap (keep (live_at w a.p)) (entries-step w a.e k (omega arith)) ∙ keep-yes (live_at w a.p) t rest (sym (tested (goal.at.loop-k-preserved c).After-is_live) ∙ c.if-not-is_live.false) in
    (omega arith, omega arith, omega (arith, c.push-count.ensures.number), coming-step c.loop-k.invariant.3 more (rw same at c.push-count.ensures))

pub loop-k-preserved-then-not-is_live : goal.loop-k-preserved-then-not-is_live
loop-k-preserved-then-not-is_live c =
    let a = c.args in
    let w = a.work.now in
    let k = c.loop-k.k in
    let t = entry_of k (segment_at w k) in
    let rest = entries_from w (k + 1) (a.e - (k + 1)) in
    let less = ap (keep (live_at w a.p)) (entries-step w a.e k (omega arith)) ∙ keep_no (live_at w a.p) t rest (sym (tested (goal.at.loop-k-preserved-then-not-is_live c).After-is_live) ∙ c.if-not-is_live.true) in
    (omega arith, omega arith, omega arith, rw less at c.loop-k.invariant.3)

pub shape_of-scan : goal.shape_of-scan
shape_of-scan c = c.loop-k.invariant.3.kept

pub returns : goal.returns
unfolding keep
returns c =
    let a = c.args in
    coming-none c.loop-k.invariant.3 (ap (keep (live_at a.work.now a.p)) (entries-done a.work.now a.e c.loop-k.k (omega arith)))
