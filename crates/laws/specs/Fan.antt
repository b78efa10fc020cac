-- The edges that start at p are strictly ordered by turn, all of them, straight up the last; so are those that end at p,
-- straight up from below the first. Transitivity is one identity with the offsets in x as weights; two edges of a settled
-- list that share an end are not in line.
use Rattle.std.specs.Prelude.{◌≡◌, [], ◌∷◌, true, ◌⊎◌, ℤ, pos, ◌+ℤ◌, ◌-ℤ◌, ◌*ℤ◌, ◌≤ℤ◌, ◌<ℤ◌}
use Rattle.std.proofs.Common.{inl, inr}
use Rattle.std.specs.Int.Signed.{lt_z}
use Rattle.whole.specs.Order.{zz, add_is, neg_is}
use Rattle.whole.specs.Ring.{reads}
use Rattle.whole.proofs.RingLaws.{ring}
use Rattle.whole.specs.Sign.{Tri, less, same, more}
use Rattle.whole.proofs.SignLaws.{tri, mul_pos, mul_nonneg, pos_right}
use Rattle.whole.specs.Test.{lt-true}
use Rattle.geom.specs.declared.Point.{Point}
use Rattle.geom.specs.Plane.{turn}
use Rattle.plane.proofs.TurnsLaws.{turn-swap}
use Rattle.plane.specs.Apart.{OneZero}

pub fan : (p x y z : Point) → (y.x.0 -ℤ p.x.0) *ℤ turn p x z ≡ (z.x.0 -ℤ p.x.0) *ℤ turn p x y +ℤ (x.x.0 -ℤ p.x.0) *ℤ turn p y z
unfolding turn
fan p x y z = ring (p.x.0 ∷ p.y.0 ∷ x.x.0 ∷ x.y.0 ∷ y.x.0 ∷ y.y.0 ∷ z.x.0 ∷ z.y.0 ∷ []) (search reads depth 20 fits 5000) tt

pub fan⁻ : (p x y z : Point) → (p.x.0 -ℤ y.x.0) *ℤ turn p x z ≡ (p.x.0 -ℤ z.x.0) *ℤ turn p x y +ℤ (p.x.0 -ℤ x.x.0) *ℤ turn p y z
unfolding turn
fan⁻ p x y z = ring (p.x.0 ∷ p.y.0 ∷ x.x.0 ∷ x.y.0 ∷ y.x.0 ∷ y.y.0 ∷ z.x.0 ∷ z.y.0 ∷ []) (search reads depth 20 fits 5000) tt

pub by_weights : (u v k a b c : ℤ) → pos 0 <ℤ k → pos 0 ≤ℤ u → pos 0 <ℤ v → pos 0 <ℤ a → pos 0 <ℤ b → k *ℤ c ≡ u *ℤ a +ℤ v *ℤ b → pos 0 <ℤ c
by_weights u v k a b c hk hu hv ha hb e =
    let z : pos 0 ≤ℤ a = omega zz in
    pos_right hk (omega (zz, add_is (u *ℤ a) (v *ℤ b), mul_nonneg hu z, mul_pos hv hb))

-- ---- no two in line
pub both_zero : {A B : ℤ} → A ≡ pos 0 → B ≡ pos 0 → OneZero A B → ⊥
both_zero p q (inl s) = s.1 q
both_zero p q (inr s) = s.0 p

pub two_ways : (p q r : Point) → (turn p q r ≡ pos 0 → ⊥) → (lt_z (pos 0) (turn p q r) ≡ true) ⊎ (lt_z (pos 0) (turn p r q) ≡ true)
two_ways p q r f = go (tri (turn p q r) (pos 0))
  where
    go : Tri (turn p q r) (pos 0) → (lt_z (pos 0) (turn p q r) ≡ true) ⊎ (lt_z (pos 0) (turn p r q) ≡ true)
    go (less h) = let k : pos 0 <ℤ turn p r q = omega (zz, turn-swap p r q, neg_is (turn p q r)) in inr (lt-true k)
    go (same h) = absurd (f h)
    go (more h) = inl (lt-true h)
