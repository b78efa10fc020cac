-- The byte of an edge ("Masks", "Keeping"): its low four bits are the fill rule's word on the sums at the top and the bottom of the edge, 16 is added exactly if the
-- edge's sign under the overlay rule is not zero, and in a settled, balanced list the signs are balanced (demand 3).
use Rattle.std.specs.Prelude.{◌≡◌, Bool, true, false, List, ℕ, ◌+◌, ◌*◌, ◌%◌, ◌<◌}
use Rattle.std.proofs.Common.{arith}
use Rattle.geom.specs.declared.Segment.{Segment}
use Rattle.geom.specs.Plane.{Side, subject, clip, count}
use Rattle.fills.specs.Inside.{inside}
use Rattle.rules.specs.Keep.{flag, kept}
use Rattle.scan.specs.Masks.{bottom, top, mask_of, byte_of}

-- subject top 1, subject bottom 2, clip top 4, clip bottom 8
abbrev pub top_bit : Side → ℕ
top_bit subject = 1
top_bit clip = 4

abbrev pub bottom_bit : Side → ℕ
bottom_bit subject = 2
bottom_bit clip = 8

-- a kept edge's byte has 16 added
abbrev pub kept_bit : ℕ
kept_bit = 16

-- ---- four bits

abbrev four : Bool → Bool → Bool → Bool → ℕ
four p q r s = flag p + 2 * flag q + 4 * flag r + 8 * flag s

pub one : (b : Bool) → flag b < 2
one true = omega arith
one false = omega arith

module _ (p q r s : Bool) where
  abbrev known : (flag p < 2) × (flag q < 2) × (flag r < 2) × (flag s < 2)
  known = (one p, one q, one r, one s)

  below_16 : four p q r s < 16
  below_16 = omega (arith, known)

-- ---- the mask and the byte
module _ (fill : ℕ) (L : List Segment) (e : Segment) where
  abbrev above : Side → Bool
  above d = inside fill (top (count d) L e)

  abbrev beneath : Side → Bool
  beneath d = inside fill (bottom (count d) L e)

  pub mask_below : mask_of fill L e < 16
  unfolding mask_of
  mask_below = below_16 (above subject) (beneath subject) (above clip) (beneath clip)

  module _ (rule : ℕ) where
    pub byte_mask : byte_of fill rule L e % 16 ≡ mask_of fill L e
    unfolding byte_of
    byte_mask = omega (arith, mask_below, one (kept rule (mask_of fill L e)))
