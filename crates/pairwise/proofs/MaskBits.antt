-- The bits of the mask are the four tests of the definition.
use mathlib.Core.Path.{◌≡◌, refl}
use mathlib.Core.Bool.{Bool, true, false}
use Prim.Native.Nat.{ℕ, ◌+◌, ◌*◌, ◌/◌, ◌%◌}
use lib.Dec.{eqb}
use Rattle.geom.specs.declared.Segment.{Segment}
use Rattle.cross.specs.Cross.{bit, inner, collinear_mask}

-- the tests that the code makes of a mask
pub record Bits (m : ℕ) (a b c d : Bool) : Type 0 where
  pub first : eqb (m % 2) 1 ≡ a
  pub second : eqb (m / 2 % 2) 1 ≡ b
  pub third : eqb (m / 4 % 2) 1 ≡ c
  pub fourth : eqb (m / 8 % 2) 1 ≡ d

bits : (a b c d : Bool) → Bits (bit a + 2 * bit b + 4 * bit c + 8 * bit d) a b c d
bits true true true true = record { first = refl; second = refl; third = refl; fourth = refl }
bits true true true false = record { first = refl; second = refl; third = refl; fourth = refl }
bits true true false true = record { first = refl; second = refl; third = refl; fourth = refl }
bits true true false false = record { first = refl; second = refl; third = refl; fourth = refl }
bits true false true true = record { first = refl; second = refl; third = refl; fourth = refl }
bits true false true false = record { first = refl; second = refl; third = refl; fourth = refl }
bits true false false true = record { first = refl; second = refl; third = refl; fourth = refl }
bits true false false false = record { first = refl; second = refl; third = refl; fourth = refl }
bits false true true true = record { first = refl; second = refl; third = refl; fourth = refl }
bits false true true false = record { first = refl; second = refl; third = refl; fourth = refl }
bits false true false true = record { first = refl; second = refl; third = refl; fourth = refl }
bits false true false false = record { first = refl; second = refl; third = refl; fourth = refl }
bits false false true true = record { first = refl; second = refl; third = refl; fourth = refl }
bits false false true false = record { first = refl; second = refl; third = refl; fourth = refl }
bits false false false true = record { first = refl; second = refl; third = refl; fourth = refl }
bits false false false false = record { first = refl; second = refl; third = refl; fourth = refl }

pub mask_bits : (t o : Segment) → Bits (collinear_mask t o) (inner o t.a) (inner o t.b) (inner t o.a) (inner t o.b)
unfolding collinear_mask
mask_bits t o = bits (inner o t.a) (inner o t.b) (inner t o.a) (inner t o.b)
