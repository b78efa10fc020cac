-- Turning a segment twice gives it back, and turning negates what is counted.
use Rattle.std.specs.Prelude.{◌≡◌, refl, neg_ℤ}
use Rattle.std.proofs.Common.{ap₂}
use Rattle.std.proofs.Math.IntN.{neg_ℤ-neg_ℤ}
use Rattle.geom.specs.declared.Segment.{Segment}
use Rattle.geom.specs.Plane.{Side, subject, clip, count, segment, turned}

pub turned-turned : (v : Segment) → turned (turned v) ≡ v
turned-turned v = ap₂ (segment v.a v.b) (neg_ℤ-neg_ℤ v.subject.0) (neg_ℤ-neg_ℤ v.clip.0)

pub count-turned : (d : Side) (v : Segment) → count d (turned v) ≡ neg_ℤ (count d v)
count-turned subject v = refl
count-turned clip v = refl
