-- By a number that is no fill rule nothing is inside, so the mask is 0, and no overlay rule keeps an edge with the mask 0.
use Rattle.std.specs.Prelude.{◌≡◌, refl, Bool, true, false, ℕ, ◌<◌, ◌≤◌, ℤ, ◌+ℤ◌}
use Rattle.std.proofs.Common.{arith}
use lib.ListN.{get_or-eq_default}
use Rattle.geom.specs.declared.Segment.{Segment}
use Rattle.fills.specs.Inside.{inside}
use Rattle.rules.specs.Keep.{differ, truth, kept}
use Rattle.scan.specs.declared.sums.Sums.{Sums}
use Rattle.scan.specs.Scan.{side_by, mask_by, byte_by}

outside : (fill : ℕ) (sum : ℤ) → 3 < fill → inside fill sum ≡ false
unfolding inside
outside fill sum h = let over : 4 ≤ fill = omega arith in rw (get_or-eq_default _ _ over)

no_side : (fill : ℕ) (bottom own : ℤ) → 3 < fill → side_by fill bottom own ≡ 0
unfolding side_by
no_side fill bottom own h = rw (outside fill (bottom +ℤ own) h, outside fill bottom h)

no_mask : (fill : ℕ) (s : Sums) (e : Segment) → 3 < fill → mask_by fill s e ≡ 0
unfolding mask_by
no_mask fill s e h = rw (no_side fill s.subject e.subject.0 h, no_side fill s.clip e.clip.0 h)

same : (b : Bool) → differ b b ≡ false
same true = refl
same false = refl

not_kept : (rule : ℕ) → kept rule 0 ≡ false
unfolding kept
not_kept rule = same (truth rule false false)

pub byte_by_none : (fill rule : ℕ) (s : Sums) (e : Segment) → 3 < fill → byte_by fill rule s e ≡ 0
unfolding byte_by
byte_by_none fill rule s e h = rw (no_mask fill s e h, not_kept rule)
