-- Where no row has a count of -2^31, each count can be negated.
use mathlib.Core.Path.{◌≡◌, ap, ◌∙◌}
use mathlib.Core.Bool.{false}
use mathlib.Core.Logic.{⊎_elim}
use Prim.Native.Nat.{ℕ, ◌<◌}
use mathlib.Core.List.{List}
use native.Mathlib.Omega.{arith}
use lib.IntN.{ℤ, negsuc, neg_ℤ}
use lib.Signed.{◌<ℤ◌, ◌≤ℤ◌}
use mir.Syntax.{w32}
use mir.Val.{SFits}
use Rattle.whole.specs.Order.{zz, mag_in, neg_is, sfits_out}
use Rattle.whole.proofs.SignLaws.{lt_or_le}
use Rattle.whole.specs.Kind.{row_at, rows_from}
use Rattle.geom.specs.declared.Count.{Count}
use Rattle.geom.specs.declared.Segment.{Segment}
use Rattle.geom.specs.Plane.{sameZ, Countable}
use Rattle.geom.specs.Tests.{when_false, same?}
use Rattle.geom.specs.Rows.{segments}
use Rattle.whole.proofs.TestLaws.{neither}
use Rattle.faults.specs.Faults.{some, has_least}
use Rattle.faults.proofs.Some.{clean_at}

negates : (c : Count) → SFits w32 c.0 → sameZ c.0 (negsuc 2147483647) ≡ false → Countable c
negates c f h =
    let z = c.0 in
    let differs = when_false (same? z (negsuc 2147483647)) h in
    let least : negsuc 2147483647 <ℤ z = ⊎_elim (λ p. p) (λ (p : z ≤ℤ negsuc 2147483647). absurd (differs (omega (zz, mag_in z, f.sfits, p)))) (lt_or_le (negsuc 2147483647) z) in
    record { fits = sfits_out (neg_ℤ z) (omega (zz, neg_is z, mag_in z, f.sfits, least)) (omega (zz, neg_is z, mag_in z, f.sfits, least)) }

pub countable : (xs : List ℤ) (n : ℕ) → some has_least (rows_from segments xs 0 n) ≡ false → (i : ℕ) → i < n → (v : Segment) → v ≡ row_at segments xs i
    → SFits w32 v.subject.0 → SFits w32 v.clip.0 → Countable v.subject × Countable v.clip
countable xs n h i q v e s t =
    let l = neither (sameZ v.subject.0 (negsuc 2147483647)) (sameZ v.clip.0 (negsuc 2147483647)) (ap has_least e ∙ clean_at has_least xs n 0 h i (omega arith) (omega arith)) in
    (negates v.subject s l.0, negates v.clip t l.1)
