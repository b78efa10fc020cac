-- Edges scaled by k: the tests of x and of height are those of the edge itself, and so are its points. Segments without a common point are apart.
use Rattle.std.specs.Prelude.{◌≡◌, [], ◌∷◌, true, ◌&&◌, ℤ, pos, ◌+ℤ◌, ◌*ℤ◌, ◌≤ℤ◌, ◌<ℤ◌}
use Rattle.std.proofs.Common.{sym, ◌∙◌, ap, ap₂, subst}
use Rattle.std.proofs.Math.IntN.{*ℤ-zero}
use Rattle.std.specs.Int.Signed.{le_z, lt_z}
use Rattle.whole.specs.Order.{zz, add_is}
use Rattle.whole.specs.Ring.{reads}
use Rattle.whole.proofs.RingLaws.{ring}
use Rattle.whole.proofs.SignLaws.{mul_pos}
use Rattle.plane.specs.Scaled.{at, spot}
use Rattle.plane.specs.Mean.{mean_on}
use Rattle.plane.proofs.ExactlyLaws.{apart_exactly}
use Rattle.whole.proofs.TestLaws.{and_l, and_r, lt_of, le_of}
use Rattle.geom.specs.declared.Segment.{Segment}
use Rattle.geom.specs.Plane.{turn, against, Before}
use Rattle.geom.specs.Off.{Off, cross, On, Within, rising, falling}
use Rattle.plane.specs.Turns.{grid}
use Rattle.plane.specs.Apart.{Apart}
use Rattle.edges.specs.Below.{alive}
use Rattle.laws.specs.Sides.{reaches}
use Rattle.laws.specs.Along.{moved}
use Rattle.laws.specs.Foot.{le-scaled, lt-scaled}

-- ---- a point that is an end of S lies on it
pub one : (z : ℤ) → pos 1 *ℤ z ≡ z
one z = ring (z ∷ []) (search reads depth 20 fits 5000) tt

pub on_start : (S : Segment) (Z : Off) → Z.X ≡ Z.d *ℤ S.a.x.0 → Z.Y ≡ Z.d *ℤ S.a.y.0 → On S Z
on_start S Z h k = mean_on {u = pos 0} {v = Z.d} (record { u_low = omega zz; v_low = omega (zz, Z.over); total = omega (zz, add_is Z.d (pos 0)); mean_x = h ∙ id Z.d S.a.x.0 S.b.x.0; mean_y = k ∙ id Z.d S.a.y.0 S.b.y.0 })
  where
    id : (d p q : ℤ) → d *ℤ p ≡ d *ℤ p +ℤ pos 0 *ℤ q
    id d p q = ring (d ∷ p ∷ q ∷ []) (search reads depth 20 fits 5000) tt

pub on_finish : (S : Segment) (Z : Off) → Z.X ≡ Z.d *ℤ S.b.x.0 → Z.Y ≡ Z.d *ℤ S.b.y.0 → On S Z
on_finish S Z h k = mean_on {u = Z.d} {v = pos 0} (record { u_low = omega (zz, Z.over); v_low = omega zz; total = omega (zz, add_is (pos 0) Z.d); mean_x = h ∙ id Z.d S.a.x.0 S.b.x.0; mean_y = k ∙ id Z.d S.a.y.0 S.b.y.0 })
  where
    id : (d p q : ℤ) → d *ℤ q ≡ pos 0 *ℤ p +ℤ d *ℤ q
    id d p q = ring (d ∷ p ∷ q ∷ []) (search reads depth 20 fits 5000) tt

pub on_end : (g : Segment) → On g (grid g.b)
on_end g = on_finish g (grid g.b) (sym (one g.b.x.0)) (sym (one g.b.y.0))

-- ---- segments without a common point are apart
pub parted : (f g : Segment) → Before f.a f.b → Before g.a g.b → ((Z : Off) → On f Z → On g Z → ⊥) → Apart f g
parted f g hf hg n = (apart_exactly f g hf hg (λ s. n (grid g.b) (subst (λ z. On f (grid z)) s.1 (on_end f)) (on_end g))).1 (λ Z p q. absurd (n Z p q))

-- ---- scaled by k
abbrev pub scaled : ℤ → Segment → Segment
scaled k t = moved (at k) t

module _ (k : ℤ) (hk : pos 0 <ℤ k) where
  -- a point of the scaled edge, for the edge itself
  abbrev pub down : Off → Off
  down Z = record { X = Z.X; Y = Z.Y; d = k *ℤ Z.d; over = mul_pos hk Z.over }

  pub factor : (d p : ℤ) → d *ℤ (k *ℤ p) ≡ (k *ℤ d) *ℤ p
  factor d p = ring (k ∷ d ∷ p ∷ []) (search reads depth 20 fits 5000) tt

  pub within : (d p q m : ℤ) → Within d (k *ℤ p) (k *ℤ q) m → Within (k *ℤ d) p q m
  within d p q m (rising h l) = rising (omega (zz, factor d p)) (omega (zz, factor d q))
  within d p q m (falling h l) = falling (omega (zz, factor d q)) (omega (zz, factor d p))

  pub cross-down : (t : Segment) (Z : Off) → cross (scaled k t) Z ≡ k *ℤ cross t (down Z)
  unfolding cross
  cross-down t Z = ring (t.a.x.0 ∷ t.a.y.0 ∷ t.b.x.0 ∷ t.b.y.0 ∷ Z.X ∷ Z.Y ∷ Z.d ∷ k ∷ []) (search reads depth 40 fits 50000) tt

  pub pos_scaled : (c : ℤ) → lt_z (pos 0) (k *ℤ c) ≡ lt_z (pos 0) c
  pos_scaled c = ap (λ z. lt_z z (k *ℤ c)) (sym (*ℤ-zero k)) ∙ lt-scaled k (pos 0) c hk

-- a point of d, against the scaled edge
pub against-scaled : (t : Segment) (P : Off) → against (scaled P.d t) (spot P) ≡ P.d *ℤ cross t P
unfolding turn cross
against-scaled t P = ring (t.a.x.0 ∷ t.a.y.0 ∷ t.b.x.0 ∷ t.b.y.0 ∷ P.X ∷ P.Y ∷ P.d ∷ []) (search reads depth 40 fits 50000) tt

-- ---- tests, scaled
pub alive-scaled : (k : ℤ) → pos 0 <ℤ k → (x : ℤ) (t : Segment) → alive (k *ℤ x) (scaled k t) ≡ alive x t
unfolding alive
alive-scaled k h x t = ap₂ ◌&&◌ (le-scaled k t.a.x.0 x h) (lt-scaled k x t.b.x.0 h)

pub reaches-scaled : (k : ℤ) → pos 0 <ℤ k → (x : ℤ) (t : Segment) → reaches (k *ℤ x) (scaled k t) ≡ reaches x t
unfolding reaches
reaches-scaled k h x t = ap₂ ◌&&◌ (lt-scaled k t.a.x.0 x h) (le-scaled k x t.b.x.0 h)

pub alive_of : (x : ℤ) (t : Segment) → alive x t ≡ true → (t.a.x.0 ≤ℤ x) × (x <ℤ t.b.x.0)
unfolding alive
alive_of x t h = (le_of (and_l (le_z t.a.x.0 x) (lt_z x t.b.x.0) h), lt_of (and_r (le_z t.a.x.0 x) (lt_z x t.b.x.0) h))

pub reaches_of : (x : ℤ) (t : Segment) → reaches x t ≡ true → (t.a.x.0 <ℤ x) × (x ≤ℤ t.b.x.0)
unfolding reaches
reaches_of x t h = (lt_of (and_l (lt_z t.a.x.0 x) (le_z x t.b.x.0) h), le_of (and_r (lt_z t.a.x.0 x) (le_z x t.b.x.0) h))
