-- A middle crossing ("Crossing", "Middle point"): each line parts the other's ends. And what the steps to its point ask and give.
use Rattle.std.specs.Prelude.{◌≢◌, ℕ, suc, ◌<◌, ◌^◌, ℤ, pos, negsuc, neg_ℤ, nat_abs, ◌+ℤ◌}
use Rattle.geom.specs.declared.Coord.{Coord}
use Rattle.geom.specs.declared.Point.{Point}
use Rattle.geom.specs.declared.Segment.{Segment}
use Rattle.plane.specs.Apart.{o₁, o₂}
use Rattle.plane.specs.Meeting.{Parted}
use Rattle.middles.specs.declared.End.{End}
use Rattle.middles.specs.Point.{nearer, reach}

pub record Middle (t o : Segment) : Type 0 where
  pub other : Parted (o₁ t o) (o₂ t o)
  pub target : Parted (o₁ o t) (o₂ o t)

-- of size q, with the sign of z
abbrev pub signed_as : ℤ → ℕ → ℤ
signed_as (pos z) q = pos q
signed_as (negsuc z) q = neg_ℤ (pos q)

abbrev pub moved_by : Coord → ℤ → Coord
moved_by c z = record { 0 = c.0 +ℤ z }

-- n / d fits
pub record Cut (n d : ℤ) : Type 0 where
  pub some : d ≢ pos 0
  pub n_small : nat_abs n < 2 ^ 63

-- of one sign, neither 0
pub data Same : ℤ → ℤ → Type 0 where
  over : {n d : ℕ} → Same (pos (suc n)) (pos (suc d))
  under : {n d : ℕ} → Same (negsuc n) (negsuc d)

-- 0 < n / d < 1, and n * a below 2^94
pub record Share (n d a : ℤ) : Type 0 where
  pub same : Same n d
  pub less : nat_abs n < nat_abs d
  pub d_small : nat_abs d < 2 ^ 63
  pub a_small : nat_abs a < 2 ^ 31

-- the nearer end, and its squared distance
abbrev pub end_of : Segment → Point → End
end_of v p = record { point = nearer v p; far = reach v p }
