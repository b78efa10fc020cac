-- The byte of an edge ("Masks", "Keeping"): its low four bits are the fill rule's word on the sums at the top and the bottom of the edge, 16 is added exactly if the
-- edge's sign under the overlay rule is not zero, and in a settled, balanced list the signs are balanced (demand 3).
use Rattle.std.specs.Prelude.{◌≡◌, refl, Bool, true, false, List, ◌↔◌, ◌≢◌, ℕ, ◌/◌, ◌%◌, ◌<◌, pos, ◌-ℤ◌, eqb}
use Rattle.std.proofs.Common.{sym, ◌∙◌, arith, eq-eqb, ne_eqb}
use Rattle.whole.specs.Sum.{ind}
use Rattle.whole.specs.Total.{clash}
use Rattle.geom.specs.declared.Segment.{Segment}
use Rattle.geom.specs.Plane.{Side, subject, clip, count}
use Rattle.fills.specs.Inside.{inside}
use Rattle.rules.specs.Keep.{flag, truth, bit, kept, sign}
use Rattle.rules.proofs.KeepLaws.{dropped_by_sign, sign_of_dropped}
use Rattle.scan.specs.Masks.{bottom, top, mask_of, byte_of}
use Rattle.demands.specs.Bytes.{bottom_bit, kept_bit, mask_below, one, top_bit}

reads : (b : Bool) (n : ℕ) → n ≡ flag b → eqb n 1 ≡ b
reads true n e = eq-eqb n 1 e
reads false n e = ne_eqb n 1 (λ h. omega arith)

module _ (p q r s : Bool) where
  abbrev known : (flag p < 2) × (flag q < 2) × (flag r < 2) × (flag s < 2)
  known = (one p, one q, one r, one s)

-- ---- the mask and the byte
module _ (fill : ℕ) (L : List Segment) (e : Segment) where
  abbrev above : Side → Bool
  above d = inside fill (top (count d) L e)

  abbrev beneath : Side → Bool
  beneath d = inside fill (bottom (count d) L e)

  pub mask-top : (d : Side) → bit (top_bit d) (mask_of fill L e) ≡ above d
  unfolding mask_of
  mask-top subject = reads (above subject) (mask_of fill L e / top_bit subject % 2) (omega (arith, known (above subject) (beneath subject) (above clip) (beneath clip)))
  mask-top clip = reads (above clip) (mask_of fill L e / top_bit clip % 2) (omega (arith, known (above subject) (beneath subject) (above clip) (beneath clip)))

  pub mask-bottom : (d : Side) → bit (bottom_bit d) (mask_of fill L e) ≡ beneath d
  unfolding mask_of
  mask-bottom subject = reads (beneath subject) (mask_of fill L e / bottom_bit subject % 2) (omega (arith, known (above subject) (beneath subject) (above clip) (beneath clip)))
  mask-bottom clip = reads (beneath clip) (mask_of fill L e / bottom_bit clip % 2) (omega (arith, known (above subject) (beneath subject) (above clip) (beneath clip)))

  module _ (rule : ℕ) where
    byte-kept : bit kept_bit (byte_of fill rule L e) ≡ kept rule (mask_of fill L e)
    unfolding byte_of
    byte-kept = reads (kept rule (mask_of fill L e)) (byte_of fill rule L e / kept_bit % 2) (omega (arith, (mask_below fill L e), one (kept rule (mask_of fill L e))))

    -- what the overlay rule makes of the two areas on top, less what it makes of them on bottom
    pub sign_is : sign rule (mask_of fill L e) ≡ ind (truth rule (above subject) (above clip)) -ℤ ind (truth rule (beneath subject) (beneath clip))
    unfolding sign
    sign_is = cc (mask-top subject, mask-top clip, mask-bottom subject, mask-bottom clip)

    -- THE LAW: kept exactly if the sign is not zero
    pub kept_is : (bit kept_bit (byte_of fill rule L e) ≡ true) ↔ (sign rule (mask_of fill L e) ≢ pos 0)
    kept_is = (λ k z. clash (sym byte-kept ∙ k) (dropped_by_sign rule (mask_of fill L e) z), λ n. byte-kept ∙ yes (kept rule (mask_of fill L e)) refl n)
      where
        yes : (b : Bool) → kept rule (mask_of fill L e) ≡ b → sign rule (mask_of fill L e) ≢ pos 0 → b ≡ true
        yes true k n = refl
        yes false k n = absurd (n (sign_of_dropped rule (mask_of fill L e) k))
