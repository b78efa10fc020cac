-- Splitting keeps the boundary: the pieces of a segment are a chain from its a to its b, each turned as needed, and each carries the segment's counts. So the
-- list that is made of a balanced one by splitting it is balanced.
use Rattle.std.specs.Prelude.{◌≡◌, ◌↔◌, ℕ, suc, ℤ, ◌+ℤ◌}
use Rattle.std.proofs.Math.Path.{refl, ap}
use Rattle.std.proofs.Common.{sym, ◌∙◌, subst}
use mathlib.Core.List.{List, [], ◌∷◌}
use Rattle.whole.specs.Sum.{Sum}
use Rattle.geom.specs.declared.Point.{Point}
use Rattle.geom.specs.declared.Segment.{Segment}
use Rattle.geom.specs.Plane.{Side, subject, clip, count}
use Rattle.segm.specs.Forward.{forward}
use Rattle.segm.specs.Balance.{Balanced}
use Rattle.split.specs.declared.answer.Mark.{Mark}
use Rattle.split.specs.Chain.{points_of, chain, pieces_from, split_from, split}
use Rattle.laws.specs.Boundary.{flow, ∂}
use Rattle.laws.specs.Steps.{Carries, Chain, done, link}
use Rattle.laws.proofs.StepsLaws.{keeps, ∂-cut}
use Rattle.laws.proofs.Prepared.{forward_carries}

module _ (d : Side) where
  -- the counts of v, from p to q
  abbrev piece : Segment → Point → Point → Segment
  piece v p q = record { a = p; b = q; subject = v.subject; clip = v.clip }

  piece_carries : (v : Segment) (p q : Point) → Carries (count d) (count d v) p q (forward (piece v p q))
  piece_carries v p q = subst (λ c. Carries (count d) c p q (forward (piece v p q))) (same d) (forward_carries d (piece v p q))
    where
      same : (s : Side) → count s (piece v p q) ≡ count s v
      same subject = refl
      same clip = refl

  pieces-chain : (v : Segment) (p : Point) (ps : List Point) → Chain (count d) (count d v) p (pieces_from v p ps) v.b
  unfolding pieces_from
  pieces-chain v p [] = link (piece_carries v p v.b) done
  pieces-chain v p (q ∷ ps) = link (piece_carries v p q) (pieces-chain v q ps)

  ∂-from : (φ : Point → ℤ) (i : ℕ) (ms : List Mark) (L : List Segment) → ∂ (count d) φ (split_from i ms L) ≡ ∂ (count d) φ L
  unfolding split_from ∂ Sum
  ∂-from φ i ms [] = refl
  ∂-from φ i ms (v ∷ L) =
      ∂-cut (count d) φ v (pieces_from v v.a (chain v (points_of i ms))) (split_from (suc i) ms L) (pieces-chain v v.a (chain v (points_of i ms)))
      ∙ ap (λ s. flow φ (count d v) v.a v.b +ℤ s) (∂-from φ (suc i) ms L)

  pub ∂-split : (φ : Point → ℤ) (ms : List Mark) (L : List Segment) → ∂ (count d) φ (split ms L) ≡ ∂ (count d) φ L
  ∂-split φ ms L = ∂-from φ 0 ms L

  -- THE LAW
  pub split-balanced : (ms : List Mark) (L : List Segment) → Balanced (count d) L ↔ Balanced (count d) (split ms L)
  split-balanced ms L = (keeps (count d) (count d) L (split ms L) (λ φ. sym (∂-split φ ms L)), keeps (count d) (count d) (split ms L) L (λ φ. ∂-split φ ms L))
