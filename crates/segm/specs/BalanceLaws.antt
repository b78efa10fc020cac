-- Balance is decided at the ends of the list (refusal 6): at every other point nothing starts and nothing ends.
use Rattle.std.specs.Prelude.{◌≡◌, Bool, not, ◌&&◌, ◌↔◌, ◌⊎◌, T, ℤ}
use Rattle.std.proofs.Math.Path.{refl, sym}
use Rattle.std.proofs.Common.{◌∙◌, subst}
use mathlib.Core.List.{List, [], ◌∷◌}
use Rattle.std.proofs.Math.Bool.{true, false}
use Rattle.std.proofs.Math.Logic.{inl, inr}
use Rattle.whole.specs.Sum.{All, none, also}
use Rattle.whole.proofs.SumLaws.{all_map, all_of, over_none}
use Rattle.whole.proofs.TestLaws.{of_true}
use Rattle.geom.specs.declared.Point.{Point}
use Rattle.geom.specs.declared.Segment.{Segment}
use Rattle.geom.specs.Plane.{same_point}
use Rattle.geom.specs.Tests.{Decides, yes, no, said, and, test_is, same?}
use Rattle.geom.proofs.TestsLaws.{same_point?}
use Rattle.segm.specs.Balance.{starting, ending, Balanced, balanced_at, balanced_over, balanced}

-- the two sums agree at both ends of t
abbrev pub EvenEnds : (Segment → ℤ) → List Segment → Segment → Type 0
EvenEnds w L t = (starting w t.a L ≡ ending w t.a L) × (starting w t.b L ≡ ending w t.b L)

-- ---- p is an end of a segment of K, or of none
module _ (w : Segment → ℤ) (L : List Segment) (p : Point) where
  abbrev Even : Point → Type 0
  Even q = starting w q L ≡ ending w q L

  Absent : Segment → Type 0
  Absent t = (same_point p t.a ≡ false) × (same_point p t.b ≡ false)

  same_or : (q : Point) → (p ≡ q) ⊎ (same_point p q ≡ false)
  same_or q = go (same_point? p q)
    where
      go : {t : Bool} → Decides (p ≡ q) t → (p ≡ q) ⊎ (t ≡ false)
      go (yes e) = inl e
      go (no f) = inr refl

  found : (K : List Segment) → All (EvenEnds w L) K → Even p ⊎ All Absent K
  unfolding Absent
  found [] h = inr none
  found (t ∷ K) (also e h) = go (same_or t.a) (same_or t.b) (found K h)
    where
      go : (p ≡ t.a) ⊎ (same_point p t.a ≡ false) → (p ≡ t.b) ⊎ (same_point p t.b ≡ false) → Even p ⊎ All Absent K → Even p ⊎ All Absent (t ∷ K)
      go (inl q) k r = inl (subst (λ z. Even z) (sym q) e.0)
      go (inr q) (inl k) r = inl (subst (λ z. Even z) (sym k) e.1)
      go (inr q) (inr k) (inl r) = inl r
      go (inr q) (inr k) (inr r) = inr (also (q, k) r)

  from_ends : All (EvenEnds w L) L → Even p
  unfolding Absent
  from_ends h = go (found L h)
    where
      go : Even p ⊎ All Absent L → Even p
      go (inl e) = e
      go (inr n) = over_none w (all_map (λ t k. k.0) n) ∙ sym (over_none w (all_map (λ t k. k.1) n))

-- THE LAW
pub balanced_at-ends : (w : Segment → ℤ) (L : List Segment) → Balanced w L ↔ All (EvenEnds w L) L
unfolding Balanced
balanced_at-ends w L = (λ b. all_of L (λ t. (b t.a, b t.b)), λ h p. from_ends w L p h)

-- ---- and its test
module _ (w : Segment → ℤ) (L : List Segment) where
  at? : (p : Point) → Decides (starting w p L ≡ ending w p L) (balanced_at w L p)
  unfolding balanced_at
  at? p = same? (starting w p L) (ending w p L)

  over? : (K : List Segment) → Decides (All (EvenEnds w L) K) (balanced_over w L K)
  unfolding balanced_over
  over? [] = yes none
  over? (t ∷ K) = said (λ h. also h.0 h.1) parts (and (and (at? t.a) (at? t.b)) (over? K))
    where
      parts : All (EvenEnds w L) (t ∷ K) → EvenEnds w L t × All (EvenEnds w L) K
      parts (also e h) = (e, h)

  balanced? : Decides (Balanced w L) (balanced w L)
  balanced? = said (balanced_at-ends w L).1 (balanced_at-ends w L).0 (over? L)

  pub balanced_test : T (balanced w L) ↔ Balanced w L
  balanced_test = test_is balanced?

  -- the sums differ at some point: where the test fails, at an end
  abbrev pub Uneven : Type 0
  Uneven = (p : Point) × (starting w p L ≡ ending w p L → ⊥)

  uneven_end : (K : List Segment) → balanced_over w L K ≡ false → Uneven
  unfolding balanced_over
  uneven_end [] e = absurd (of_true (sym e))
  uneven_end (t ∷ K) e = go (at? t.a) (at? t.b) (uneven_end K) e
    where
      go : {a b c : Bool} → Decides (starting w t.a L ≡ ending w t.a L) a → Decides (starting w t.b L ≡ ending w t.b L) b → (c ≡ false → Uneven) → ((a && b) && c) ≡ false → Uneven
      go (no f) d r e = (t.a, f)
      go (yes h) (no f) r e = (t.b, f)
      go (yes h) (yes k) r e = r e

  pub uneven? : Decides Uneven (not (balanced w L))
  unfolding Balanced
  uneven? = go (balanced w L) refl balanced?
    where
      go : (t : Bool) → balanced w L ≡ t → Decides (Balanced w L) t → Decides Uneven (not t)
      go true e (yes b) = no (λ u. u.1 (b u.0))
      go false e d = yes (uneven_end L e)
