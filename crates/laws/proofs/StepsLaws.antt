-- What a run does to a list keeps its boundary, for every weight and every φ: to turn a segment and negate its weight, to cut
-- it into a chain of pieces that are turned as needed, to add the weights of equal segments, to drop a segment of
-- weight 0, to rearrange. So a list that is made so of a balanced one is balanced (`keeps`).
use Rattle.std.specs.Prelude.{◌≡◌, refl, List, [], ◌∷◌, ◌++◌, map, ℤ, pos, neg_ℤ}
use Rattle.std.proofs.Math.Path.{sym, ap, ap₂}
use Rattle.std.proofs.Common.{◌∙◌}
use Rattle.std.proofs.Math.IntN.{◌+ℤ◌}
use Rattle.whole.specs.Ring.{reads}
use Rattle.whole.proofs.RingLaws.{ring}
use Rattle.whole.specs.Sorting.{Perm}
use Rattle.whole.specs.Sum.{Sum}
use Rattle.whole.proofs.SumLaws.{assoc, sum-append, sum-map, sum_same, sum-perm}
use Rattle.geom.specs.declared.Point.{Point}
use Rattle.geom.specs.declared.Segment.{Segment}
use Rattle.geom.specs.Plane.{Side, count, subject, clip, turned}
use Rattle.segm.specs.Balance.{Balanced}
use Rattle.segm.specs.Order.{SameEnds}
use Rattle.laws.specs.Boundary.{flow, ∂}
use Rattle.laws.proofs.BoundaryLaws.{balanced_is}
use Rattle.laws.specs.Steps.{Carries, Chain, flow-add, flow-turn, straight, reversed, done, link}

pub keeps : (w v : Segment → ℤ) (K L : List Segment) → ((φ : Point → ℤ) → ∂ w φ K ≡ ∂ v φ L) → Balanced w K → Balanced v L
keeps w v K L h b = (balanced_is v L).1 (λ φ. sym (h φ) ∙ (balanced_is w K).0 b φ)

flow-zero : (φ : Point → ℤ) (p q : Point) → flow φ (pos 0) p q ≡ pos 0
unfolding flow
flow-zero φ p q = ring (φ p ∷ φ q ∷ []) (search reads depth 20 fits 5000) tt

flow_stay : (φ : Point → ℤ) (c : ℤ) (p : Point) → pos 0 ≡ flow φ c p p
unfolding flow
flow_stay φ c p = ring (c ∷ φ p ∷ []) (search reads depth 20 fits 5000) tt

flow-cut : (φ : Point → ℤ) (c : ℤ) (p m q : Point) → flow φ c p m +ℤ flow φ c m q ≡ flow φ c p q
unfolding flow
flow-cut φ c p m q = ring (c ∷ φ p ∷ φ m ∷ φ q ∷ []) (search reads depth 20 fits 5000) tt

module _ (w : Segment → ℤ) (φ : Point → ℤ) where
  carries_flow : {c : ℤ} {p q : Point} {t : Segment} → Carries w c p q t → flow φ (w t) t.a t.b ≡ flow φ c p q
  carries_flow {c} {t = t} (straight h k e) = ap (λ s. flow φ s t.a t.b) e ∙ ap₂ (λ r s. flow φ c r s) h k
  carries_flow {c} {p} {q} {t} (reversed h k e) = ap (λ s. flow φ s t.a t.b) e ∙ ap₂ (λ r s. flow φ (neg_ℤ c) r s) h k ∙ flow-turn φ c p q

  same_flow : (s t : Segment) → SameEnds s t → flow φ (w s) s.a s.b ≡ flow φ (w s) t.a t.b
  same_flow s t h = ap₂ (λ p q. flow φ (w s) p q) h.0 h.1

  -- ---- a list
  pub ∂-append : (K L : List Segment) → ∂ w φ (K ++ L) ≡ ∂ w φ K +ℤ ∂ w φ L
  unfolding ∂
  ∂-append K L = sum-append (λ t. flow φ (w t) t.a t.b) K L

  -- one segment in another's stead
  pub ∂-turned : (t e : Segment) (L : List Segment) → Carries w (w e) e.a e.b t → ∂ w φ (t ∷ L) ≡ ∂ w φ (e ∷ L)
  unfolding ∂ Sum
  ∂-turned t e L h = ap (λ s. s +ℤ ∂ w φ L) (carries_flow h)

  -- one in each one's stead
  pub ∂-each : (f : Segment → Segment) (L : List Segment) → ((e : Segment) → Carries w (w e) e.a e.b (f e)) → ∂ w φ (map f L) ≡ ∂ w φ L
  unfolding ∂
  ∂-each f L h = sum-map (λ t. flow φ (w t) t.a t.b) f L ∙ sum_same L (λ e. carries_flow (h e))

  chain-∂ : {c : ℤ} {p q : Point} {K : List Segment} → Chain w c p K q → ∂ w φ K ≡ flow φ c p q
  unfolding ∂ Sum
  chain-∂ {c} {p} done = flow_stay φ c p
  chain-∂ {c} {p} {q} (link {m = m} h k) = ap₂ ◌+ℤ◌ (carries_flow h) (chain-∂ k) ∙ flow-cut φ c p m q

  -- a chain in a segment's stead
  pub ∂-cut : (e : Segment) (K L : List Segment) → Chain w (w e) e.a K e.b → ∂ w φ (K ++ L) ≡ ∂ w φ (e ∷ L)
  unfolding ∂ Sum
  ∂-cut e K L h = ∂-append K L ∙ ap (λ s. s +ℤ ∂ w φ L) (chain-∂ h)

  -- one for two with its ends
  pub ∂-merged : (r s t : Segment) (L : List Segment) → SameEnds r t → SameEnds s t → w t ≡ w r +ℤ w s → ∂ w φ (t ∷ L) ≡ ∂ w φ (r ∷ s ∷ L)
  unfolding ∂ Sum
  ∂-merged r s t L h k e =
      ap (λ z. z +ℤ ∂ w φ L) (ap (λ z. flow φ z t.a t.b) e ∙ flow-add φ (w r) (w s) t.a t.b ∙ sym (ap₂ ◌+ℤ◌ (same_flow r t h) (same_flow s t k)))
      ∙ sym (assoc (flow φ (w r) r.a r.b) (flow φ (w s) s.a s.b) (∂ w φ L))

  nothing : (x : ℤ) → pos 0 +ℤ x ≡ x
  nothing x = ring (x ∷ []) (search reads depth 20 fits 5000) tt

  pub ∂-dropped : (e : Segment) (L : List Segment) → w e ≡ pos 0 → ∂ w φ (e ∷ L) ≡ ∂ w φ L
  unfolding ∂ Sum
  ∂-dropped e L h = ap (λ z. z +ℤ ∂ w φ L) (ap (λ c. flow φ c e.a e.b) h ∙ flow-zero φ e.a e.b) ∙ nothing (∂ w φ L)

-- ---- rearranging
pub ∂-perm : (w : Segment → ℤ) (φ : Point → ℤ) (K L : List Segment) → Perm K L → ∂ w φ K ≡ ∂ w φ L
unfolding ∂
∂-perm w φ K L h = sum-perm (λ t. flow φ (w t) t.a t.b) K L h

-- ---- the two counts: a segment and the same turned carry the same
pub turned_carries : (s : Side) (e : Segment) → Carries (count s) (count s e) e.a e.b (turned e)
turned_carries subject e = reversed refl refl refl
turned_carries clip e = reversed refl refl refl
