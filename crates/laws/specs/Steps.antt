-- What a run does to a list keeps its boundary, for every weight and every φ: to turn a segment and negate its weight, to cut
-- it into a chain of pieces that are turned as needed, to add the weights of equal segments, to drop a segment of
-- weight 0, to rearrange. So a list that is made so of a balanced one is balanced (`keeps`).
use Rattle.std.specs.Prelude.{◌≡◌, List, [], ◌∷◌, ℤ, neg_ℤ}
use Rattle.std.proofs.Math.IntN.{◌+ℤ◌}
use Rattle.whole.specs.Ring.{reads}
use Rattle.whole.proofs.RingLaws.{ring}
use Rattle.geom.specs.declared.Point.{Point}
use Rattle.geom.specs.declared.Segment.{Segment}
use Rattle.laws.specs.Boundary.{flow}

-- ---- one segment
pub flow-turn : (φ : Point → ℤ) (c : ℤ) (p q : Point) → flow φ (neg_ℤ c) q p ≡ flow φ c p q
unfolding flow
flow-turn φ c p q = ring (c ∷ φ p ∷ φ q ∷ []) (search reads depth 20 fits 5000) tt

pub flow-add : (φ : Point → ℤ) (c d : ℤ) (p q : Point) → flow φ (c +ℤ d) p q ≡ flow φ c p q +ℤ flow φ d p q
unfolding flow
flow-add φ c d p q = ring (c ∷ d ∷ φ p ∷ φ q ∷ []) (search reads depth 20 fits 5000) tt

-- t carries c from p to q, as it stands or turned
pub data Carries (w : Segment → ℤ) (c : ℤ) (p q : Point) (t : Segment) : Type 0 where
  straight : t.a ≡ p → t.b ≡ q → w t ≡ c → Carries w c p q t
  reversed : t.a ≡ q → t.b ≡ p → w t ≡ neg_ℤ c → Carries w c p q t

-- a chain of pieces from p to q, each of which carries c
pub data Chain (w : Segment → ℤ) (c : ℤ) : Point → List Segment → Point → Type 0 where
  done : {p : Point} → Chain w c p [] p
  link : {p m q : Point} {t : Segment} {K : List Segment} → Carries w c p m t → Chain w c m K q → Chain w c p (t ∷ K) q
