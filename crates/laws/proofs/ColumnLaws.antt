-- The column of a point p: right of it, just under p, run the edges that run left of it there, less the upright ones that
-- reach p from below or pass it. An edge through the column counts on both sides; one that begins or ends in it begins or
-- ends in the region { q : q.x = p.x, q.y < p.y }, whose first and second ends weigh the same.
use Rattle.std.specs.Prelude.{◌≡◌, List, [], ◌∷◌, Bool, ℤ, pos, ◌+ℤ◌, ◌-ℤ◌, ◌*ℤ◌, ◌≤ℤ◌, ◌<ℤ◌}
use Rattle.std.proofs.Common.{sym, ◌∙◌, ap}
use Rattle.std.proofs.Math.IntN.{*ℤ-zero}
use Rattle.std.specs.Int.Signed.{lt_z}
use Rattle.whole.specs.Order.{zz, add_is, sub_is}
use Rattle.whole.specs.Ring.{reads}
use Rattle.whole.proofs.RingLaws.{ring}
use Rattle.whole.specs.Sign.{Tri, less, same, more}
use Rattle.whole.proofs.SignLaws.{tri, mul_pos, mul_pos_neg}
use Rattle.whole.specs.Sum.{All, ind, Over}
use Rattle.whole.proofs.SumLaws.{all_map, over-three}
use Rattle.whole.specs.Test.{lt-true, tests}
use Rattle.geom.specs.declared.Point.{Point}
use Rattle.geom.specs.declared.Segment.{Segment}
use Rattle.geom.specs.Plane.{turn, against, Before, by_x, by_y}
use Rattle.segm.specs.Balance.{Balanced}
use Rattle.edges.specs.Below.{alive}
use Rattle.laws.specs.Sides.{reaches}
use Rattle.laws.proofs.BoundaryLaws.{region}
use Rattle.laws.specs.Along.{moved}
use Rattle.laws.specs.Foot.{u, v}
use Rattle.laws.specs.Column.{column, under-right, under_left, upto}

-- ---- the height where the column meets an end
pub at_a : (o q p : Point) → turn o q p +ℤ (q.y.0 -ℤ o.y.0) *ℤ (p.x.0 -ℤ o.x.0) ≡ (q.x.0 -ℤ o.x.0) *ℤ (p.y.0 -ℤ o.y.0)
unfolding turn
at_a o q p = ring (o.x.0 ∷ o.y.0 ∷ q.x.0 ∷ q.y.0 ∷ p.x.0 ∷ p.y.0 ∷ []) (search reads depth 20 fits 5000) tt

pub at_b : (o q p : Point) → turn o q p +ℤ (q.y.0 -ℤ o.y.0) *ℤ (p.x.0 -ℤ q.x.0) ≡ (q.x.0 -ℤ o.x.0) *ℤ (p.y.0 -ℤ q.y.0)
unfolding turn
at_b o q p = ring (o.x.0 ∷ o.y.0 ∷ q.x.0 ∷ q.y.0 ∷ p.x.0 ∷ p.y.0 ∷ []) (search reads depth 20 fits 5000) tt

no_part : (t k s r : ℤ) → t +ℤ k *ℤ s ≡ r → s ≡ pos 0 → t ≡ r
no_part t k s r e z = omega (zz, add_is t (k *ℤ s), ap (λ v. k *ℤ v) z ∙ *ℤ-zero k)

pub turn_at_a : (o q p : Point) → o.x.0 ≡ p.x.0 → turn o q p ≡ (q.x.0 -ℤ o.x.0) *ℤ (p.y.0 -ℤ o.y.0)
turn_at_a o q p e = no_part (turn o q p) (q.y.0 -ℤ o.y.0) (p.x.0 -ℤ o.x.0) ((q.x.0 -ℤ o.x.0) *ℤ (p.y.0 -ℤ o.y.0)) (at_a o q p) (omega (zz, sub_is p.x.0 o.x.0))

pub turn_at_b : (o q p : Point) → q.x.0 ≡ p.x.0 → turn o q p ≡ (q.x.0 -ℤ o.x.0) *ℤ (p.y.0 -ℤ q.y.0)
turn_at_b o q p e = no_part (turn o q p) (q.y.0 -ℤ o.y.0) (p.x.0 -ℤ q.x.0) ((q.x.0 -ℤ o.x.0) *ℤ (p.y.0 -ℤ q.y.0)) (at_b o q p) (omega (zz, sub_is p.x.0 q.x.0))

-- a positive factor does not matter to a test
scaled : (k u v : ℤ) → pos 0 <ℤ k → lt_z (pos 0) (k *ℤ (v -ℤ u)) ≡ lt_z u v
scaled k u v hk = go (tri u v)
  where
    go : Tri u v → lt_z (pos 0) (k *ℤ (v -ℤ u)) ≡ lt_z u v
    go (less h) = lt-true (mul_pos hk (omega (zz, sub_is v u))) ∙ sym (lt-true h)
    go (same h) = let z : v -ℤ u ≡ pos 0 = omega (zz, sub_is v u) in let f : (k *ℤ (v -ℤ u)) ≤ℤ pos 0 = omega (zz, ap (λ s. k *ℤ s) z ∙ *ℤ-zero k) in simp tests
    go (more h) = let f = mul_pos_neg {b = v -ℤ u} hk (omega (zz, sub_is v u)) in simp tests

pub height_a : (t : Segment) (p : Point) → t.a.x.0 ≡ p.x.0 → t.a.x.0 <ℤ t.b.x.0 → lt_z (pos 0) (against t p) ≡ lt_z t.a.y.0 p.y.0
height_a t p e h = ap (λ s. lt_z (pos 0) s) (turn_at_a t.a t.b p e) ∙ scaled (t.b.x.0 -ℤ t.a.x.0) t.a.y.0 p.y.0 (omega (zz, sub_is t.b.x.0 t.a.x.0))

pub height_b : (t : Segment) (p : Point) → t.b.x.0 ≡ p.x.0 → t.a.x.0 <ℤ t.b.x.0 → lt_z (pos 0) (against t p) ≡ lt_z t.b.y.0 p.y.0
height_b t p e h = ap (λ s. lt_z (pos 0) s) (turn_at_b t.a t.b p e) ∙ scaled (t.b.x.0 -ℤ t.a.x.0) t.b.y.0 p.y.0 (omega (zz, sub_is t.b.x.0 t.a.x.0))

Level : Point → Segment → Type 0
Level p t = ind (under-right p t) +ℤ ind (upto p t) +ℤ ind (column p t.b) ≡ ind (under_left p t) +ℤ ind (column p t.a)

run_case : (p : Point) (t : Segment) → t.a.x.0 <ℤ t.b.x.0 → Tri t.a.x.0 p.x.0 → Tri t.b.x.0 p.x.0 → Level p t
unfolding Level under-right under_left upto column alive reaches
run_case p t h (less k) (less l) = simp tests
run_case p t h (less k) (same l) = simp (tests, height_b t p l h)
run_case p t h (less k) (more l) = simp tests
run_case p t h (same k) (less l) = let z : ⊥ = omega zz in absurd z
run_case p t h (same k) (same l) = let z : ⊥ = omega zz in absurd z
run_case p t h (same k) (more l) = simp (tests, height_a t p k h)
run_case p t h (more k) (less l) = let z : ⊥ = omega zz in absurd z
run_case p t h (more k) (same l) = let z : ⊥ = omega zz in absurd z
run_case p t h (more k) (more l) = simp tests

stand_case : (p : Point) (t : Segment) → t.a.x.0 ≡ t.b.x.0 → t.a.y.0 <ℤ t.b.y.0 → Tri t.a.x.0 p.x.0 → Tri t.a.y.0 p.y.0 → Tri t.b.y.0 p.y.0 → Level p t
unfolding Level under-right under_left upto column alive reaches
stand_case p t e h (less k) i j = let l : t.b.x.0 <ℤ p.x.0 = omega zz in simp tests
stand_case p t e h (more k) i j = let l : p.x.0 <ℤ t.b.x.0 = omega zz in simp tests
stand_case p t e h (same k) (less i) (less j) = let l : t.b.x.0 ≡ p.x.0 = omega zz in simp tests
stand_case p t e h (same k) (less i) (same j) = let l : t.b.x.0 ≡ p.x.0 = omega zz in simp tests
stand_case p t e h (same k) (less i) (more j) = let l : t.b.x.0 ≡ p.x.0 = omega zz in simp tests
stand_case p t e h (same k) (same i) (less j) = let z : ⊥ = omega zz in absurd z
stand_case p t e h (same k) (same i) (same j) = let z : ⊥ = omega zz in absurd z
stand_case p t e h (same k) (same i) (more j) = let l : t.b.x.0 ≡ p.x.0 = omega zz in simp tests
stand_case p t e h (same k) (more i) (less j) = let z : ⊥ = omega zz in absurd z
stand_case p t e h (same k) (more i) (same j) = let z : ⊥ = omega zz in absurd z
stand_case p t e h (same k) (more i) (more j) = let l : t.b.x.0 ≡ p.x.0 = omega zz in simp tests

even : (p : Point) (t : Segment) → Before t.a t.b → Level p t
even p t (by_x h) = run_case p t h (tri t.a.x.0 p.x.0) (tri t.b.x.0 p.x.0)
even p t (by_y e h) = stand_case p t e h (tri t.a.x.0 p.x.0) (tri t.a.y.0 p.y.0) (tri t.b.y.0 p.y.0)

-- no edge need be apart from another for this, and the list may be moved
pub columns : (w : Segment → ℤ) (L : List Segment) (g : Point → Point) → Balanced w L → All (λ t. Before (g t.a) (g t.b)) L → (p : Point) → Over w (λ t. under-right p (moved g t)) L +ℤ Over w (λ t. upto p (moved g t)) L ≡ Over w (λ t. under_left p (moved g t)) L
unfolding Level
columns w L g bal fwd p =
    let rt : Segment → Bool = λ t. under-right p (moved g t) in
    let up : Segment → Bool = λ t. upto p (moved g t) in
    let lt : Segment → Bool = λ t. under_left p (moved g t) in
    let s : Segment → Bool = λ t. column p (g t.a) in
    let e : Segment → Bool = λ t. column p (g t.b) in
    omega (
      zz,
      region w L bal (λ q. column p (g q)),
      over-three w rt up e lt s (all_map (λ t h. even p (moved g t) h) fwd),
      add_is (Over w rt L +ℤ Over w up L) (Over w e L),
      add_is (Over w rt L) (Over w up L),
      add_is (Over w lt L) (Over w s L),
    )
