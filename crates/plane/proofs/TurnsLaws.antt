-- The laws of the turn of three points, and of the four turns of two segments. All are identities, by `ring`.
use Rattle.std.specs.Prelude.{◌≡◌, [], ◌∷◌, ℤ, pos, neg_ℤ, ◌+ℤ◌, ◌-ℤ◌, ◌*ℤ◌, ◌<ℤ◌}
use Rattle.std.proofs.Common.{◌∙◌, ap₂}
use Rattle.whole.specs.Order.{zz, add_is, sub_is}
use Rattle.whole.specs.Ring.{reads}
use Rattle.whole.proofs.RingLaws.{ring}
use Rattle.geom.specs.declared.Point.{Point}
use Rattle.geom.specs.declared.Segment.{Segment}
use Rattle.geom.specs.Plane.{Before, by_x, by_y, turn, against}
use Rattle.geom.specs.Off.{cross}
use Rattle.plane.specs.Scaled.{unscale}
use Rattle.plane.specs.Apart.{o₁, o₂}
use Rattle.plane.specs.Turns.{coords, four_turns, grid}

-- ---- three and four points
pub turn_cyclic : (o p q : Point) → turn o p q ≡ turn p q o
unfolding turn
turn_cyclic o p q = ring (o.x.0 ∷ o.y.0 ∷ p.x.0 ∷ p.y.0 ∷ q.x.0 ∷ q.y.0 ∷ []) (search reads depth 20 fits 5000) tt

pub turn-swap : (o p q : Point) → turn o p q ≡ neg_ℤ (turn o q p)
unfolding turn
turn-swap o p q = ring (o.x.0 ∷ o.y.0 ∷ p.x.0 ∷ p.y.0 ∷ q.x.0 ∷ q.y.0 ∷ []) (search reads depth 20 fits 5000) tt

pub turn_self : (o p : Point) → turn o p o ≡ pos 0
unfolding turn
turn_self o p = ring (o.x.0 ∷ o.y.0 ∷ p.x.0 ∷ p.y.0 ∷ []) (search reads depth 20 fits 5000) tt

pub turn_end : (o p : Point) → turn o p p ≡ pos 0
unfolding turn
turn_end o p = ring (o.x.0 ∷ o.y.0 ∷ p.x.0 ∷ p.y.0 ∷ []) (search reads depth 20 fits 5000) tt

pub turn-four : (o p q r : Point) → turn o p q +ℤ turn o q r ≡ turn o p r +ℤ turn p q r
unfolding turn
turn-four o p q r = ring (o.x.0 ∷ o.y.0 ∷ p.x.0 ∷ p.y.0 ∷ q.x.0 ∷ q.y.0 ∷ r.x.0 ∷ r.y.0 ∷ []) (search reads depth 20 fits 5000) tt

pub cross-grid : (e : Segment) (q : Point) → cross e (grid q) ≡ against e q
unfolding turn cross
cross-grid e q = ring (e.a.x.0 ∷ e.a.y.0 ∷ e.b.x.0 ∷ e.b.y.0 ∷ q.x.0 ∷ q.y.0 ∷ []) (search reads depth 20 fits 5000) tt

pub falls : (e f : Segment) → o₁ f e <ℤ o₂ f e → o₂ e f <ℤ o₁ e f
falls e f h = omega (zz, four_turns e f, add_is (o₁ f e) (o₁ e f), add_is (o₂ f e) (o₂ e f))

pub rises : (e f : Segment) → o₂ f e <ℤ o₁ f e → o₁ e f <ℤ o₂ e f
rises e f h = omega (zz, four_turns e f, add_is (o₁ f e) (o₁ e f), add_is (o₂ f e) (o₂ e f))

-- ---- both ends of f on the line of e: both ends of e on the line of f
by_width : (e f : Segment) → (e.b.x.0 -ℤ e.a.x.0) *ℤ o₁ f e ≡ (f.a.x.0 -ℤ e.a.x.0) *ℤ o₂ e f -ℤ (f.b.x.0 -ℤ e.a.x.0) *ℤ o₁ e f
unfolding turn
by_width e f = ring (coords e f) (search reads depth 20 fits 5000) tt

by_height : (e f : Segment) → (e.b.y.0 -ℤ e.a.y.0) *ℤ o₁ f e ≡ (f.a.y.0 -ℤ e.a.y.0) *ℤ o₂ e f -ℤ (f.b.y.0 -ℤ e.a.y.0) *ℤ o₁ e f
unfolding turn
by_height e f = ring (coords e f) (search reads depth 20 fits 5000) tt

vanish : (l p q r s t : ℤ) → pos 0 <ℤ l → r ≡ pos 0 → s ≡ pos 0 → l *ℤ t ≡ p *ℤ r -ℤ q *ℤ s → t ≡ pos 0
vanish l p q r s t lp h k e = unscale l lp (e ∙ ap₂ (λ x y. p *ℤ x -ℤ q *ℤ y) h k ∙ none)
  where
    none : p *ℤ pos 0 -ℤ q *ℤ pos 0 ≡ l *ℤ pos 0
    none = ring (p ∷ q ∷ l ∷ []) (search reads depth 20 fits 5000) tt

module _ (e f : Segment) (h : o₁ e f ≡ pos 0) (k : o₂ e f ≡ pos 0) where
  level_a : Before e.a e.b → o₁ f e ≡ pos 0
  level_a (by_x g) = vanish (e.b.x.0 -ℤ e.a.x.0) (f.a.x.0 -ℤ e.a.x.0) (f.b.x.0 -ℤ e.a.x.0) (o₂ e f) (o₁ e f) (o₁ f e) (omega (zz, sub_is e.b.x.0 e.a.x.0)) k h (by_width e f)
  level_a (by_y _ g) = vanish (e.b.y.0 -ℤ e.a.y.0) (f.a.y.0 -ℤ e.a.y.0) (f.b.y.0 -ℤ e.a.y.0) (o₂ e f) (o₁ e f) (o₁ f e) (omega (zz, sub_is e.b.y.0 e.a.y.0)) k h (by_height e f)

  pub level-both : Before e.a e.b → (o₁ f e ≡ pos 0) × (o₂ f e ≡ pos 0)
  level-both g =
      let z = level_a g in
      (z, omega (zz, four_turns e f, add_is (o₁ f e) (o₁ e f), add_is (o₂ f e) (o₂ e f)))
