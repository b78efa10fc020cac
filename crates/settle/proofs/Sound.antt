-- What merging leaves keeps what every list keeps: the ends are those of segments, and the totals are not too big. No check refuses such a list.
use mathlib.Core.Path.{◌≡◌, refl}
use mathlib.Core.Bool.{Bool, false}
use mathlib.Core.List.{List, map}
use Prim.Native.Nat.{◌≤◌}
use native.Mathlib.Omega.{arith}
use lib.IntN.{ℤ, negsuc, nat_abs}
use Rattle.whole.specs.Sum.{All, none, also}
use Rattle.whole.proofs.SumLaws.{all_map, all_both, all-over, all-sort}
use Rattle.geom.specs.declared.Point.{Point}
use Rattle.geom.specs.declared.Segment.{Segment}
use Rattle.geom.specs.Plane.{GridPoint, GridSegment, Before, sameZ, subject, clip}
use Rattle.geom.specs.Order.{before-differ}
use Rattle.geom.specs.Tests.{holds, fails, same?}
use Rattle.geom.proofs.TestsLaws.{same_point?, grid_segment?}
use Rattle.segm.specs.Forward.{forward, in_order, sorted}
use Rattle.segm.specs.ForwardLaws.{forward-grid, forward_runs}
use Rattle.segm.specs.Merge.{merged, too_big}
use Rattle.segm.proofs.MergeLaws.{merged-ends, merged-near}
use Rattle.faults.specs.Faults.{some, is_off, is_point, has_least}
use Rattle.demands.specs.Pieces.{Good}
use Rattle.settle.specs.Kept.{Sound}

abbrev Ends : Point → Point → Type 0
Ends p q = GridPoint p × GridPoint q × Before p q

pub joined-sound : {K : List Segment} → All Good K → too_big (sorted K) ≡ false → All Sound (merged (sorted K))
joined-sound {K} h e =
    all_map (λ v r. record { good = (record { a = r.0.0; b = r.0.1 }, r.0.2); near = r.1 })
    (all_both (merged-ends Ends (all-sort in_order (all_map (λ v g. (g.0.a, g.0.b, g.1)) h))) (merged-near (sorted K) e))

-- ---- the checks

pub clear : {fault : Segment → Bool} {L : List Segment} → All (λ v. fault v ≡ false) L → some fault L ≡ false
unfolding some
clear none = refl
clear (also h k) = rw h (clear k)

-- what passed the checks is good once turned
pub turned-good : {L : List Segment} → All GridSegment L → All (λ v. v.a ≡ v.b → ⊥) L → All Good (map forward L)
turned-good g h = all-over forward (all_map (λ v r. (forward-grid v r.0, forward_runs v r.1)) (all_both g h))

not_least : (z : ℤ) → nat_abs z ≤ 2147483647 → sameZ z (negsuc 2147483647) ≡ false
not_least z h = fails (same? z (negsuc 2147483647)) (λ (e : z ≡ negsuc 2147483647). let n : nat_abs (negsuc 2147483647) ≤ 2147483647 = rw e at h in omega arith)

module _ {v : Segment} (s : Sound v) where
  pub sound_on : is_off v ≡ false
  sound_on = rw (holds (grid_segment? v) s.good.0)

  pub sound-long : is_point v ≡ false
  sound-long = fails (same_point? v.a v.b) (before-differ s.good.1)

  pub sound-near : has_least v ≡ false
  sound-near = rw (not_least v.subject.0 (s.near subject), not_least v.clip.0 (s.near clip))
