-- What tests decide, said with T: two tests together, and the test of equality. The laws of deciding are whole's (module Decide there).
use Rattle.std.specs.Prelude.{◌≡◌, Bool, ◌&&◌, ◌↔◌, T, ℤ}
use Rattle.whole.specs.Decide.{and, test_is, decided}
use Rattle.whole.proofs.DecideLaws.{same?}
use Rattle.geom.specs.Plane.{sameZ}

pub and_is : (b c : Bool) {A B : Type 0} → (T b ↔ A) → (T c ↔ B) → T (b && c) ↔ (A × B)
and_is b c h k = test_is (and (decided b h) (decided c k))

pub same_is : (a b : ℤ) → T (sameZ a b) ↔ (a ≡ b)
same_is a b = test_is (same? a b)
