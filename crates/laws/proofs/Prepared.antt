-- What a run does to a list before the first look keeps its boundary, on either side and for every φ: to turn its segments forward, to sort it, to merge it.
-- So the list that is looked at is balanced exactly if the given one is.
use Rattle.std.specs.Prelude.{◌≡◌, Bool, not, cond, ◌↔◌, ℤ, ◌+ℤ◌}
use Rattle.std.proofs.Math.Path.{refl, sym, ap}
use Rattle.std.proofs.Common.{◌∙◌}
use mathlib.Core.List.{List, [], ◌∷◌, map}
use Rattle.std.proofs.Math.Bool.{true, false}
use Rattle.std.proofs.Math.IntN.{pos}
use Rattle.whole.proofs.SortingLaws.{sort-perm}
use Rattle.whole.specs.Sum.{Sum, keep}
use Rattle.whole.proofs.SumLaws.{keep-yes, keep_no}
use Rattle.geom.specs.declared.Point.{Point}
use Rattle.geom.specs.declared.Segment.{Segment}
use Rattle.geom.specs.Plane.{Side, subject, clip, count, before, turned}
use Rattle.geom.specs.Tests.{and, same?, when_true}
use Rattle.segm.specs.Forward.{forward, sorted}
use Rattle.groups.specs.Group.{is_empty}
use Rattle.segm.specs.Merge.{same_ends, plus, groups_from, merged_from, merged}
use Rattle.segm.specs.Order.{order}
use Rattle.segm.proofs.MergeLaws.{same_ends?}
use Rattle.segm.specs.Balance.{Balanced}
use Rattle.laws.specs.Boundary.{flow, ∂}
use Rattle.laws.specs.Steps.{Carries, straight}
use Rattle.laws.proofs.StepsLaws.{keeps, ∂-each, ∂-merged, ∂-dropped, ∂-perm, turned_carries}

abbrev full : Segment → Bool
full t = not (is_empty t)

module _ (d : Side) where
  pub forward_carries : (e : Segment) → Carries (count d) (count d e) e.a e.b (forward e)
  unfolding forward
  forward_carries e = go (before e.b e.a)
    where
      go : (b : Bool) → Carries (count d) (count d e) e.a e.b (cond b (turned e) e)
      go true = turned_carries d e
      go false = straight refl refl refl

  count-plus : (u v : Segment) → count d (plus u v) ≡ count d u +ℤ count d v
  unfolding plus
  count-plus u v = go d
    where
      go : (s : Side) → count s (plus u v) ≡ count s u +ℤ count s v
      go subject = refl
      go clip = refl

  count-empty : (t : Segment) → is_empty t ≡ true → count d t ≡ pos 0
  unfolding is_empty
  count-empty t e = go d (when_true (and (same? t.subject.0 (pos 0)) (same? t.clip.0 (pos 0))) e)
    where
      go : (s : Side) → (t.subject.0 ≡ pos 0) × (t.clip.0 ≡ pos 0) → count s t ≡ pos 0
      go subject h = h.0
      go clip h = h.1

  module _ (φ : Point → ℤ) where
    abbrev D : List Segment → ℤ
    D L = ∂ (count d) φ L

    pub ∂-forward : (L : List Segment) → D (map forward L) ≡ D L
    ∂-forward L = ∂-each (count d) φ forward L forward_carries

    pub ∂-sorted : (L : List Segment) → D (sorted L) ≡ D L
    ∂-sorted L = sym (∂-perm (count d) φ L (sorted L) (sort-perm order L))

    behind : (t : Segment) (K L : List Segment) → D K ≡ D L → D (t ∷ K) ≡ D (t ∷ L)
    unfolding ∂ Sum
    behind t K L e = ap (λ s. flow φ (count d t) t.a t.b +ℤ s) e

    ∂-groups : (u : Segment) (L : List Segment) → D (groups_from u L) ≡ D (u ∷ L)
    unfolding groups_from plus
    ∂-groups u [] = refl
    ∂-groups u (v ∷ L) = go (same_ends u v) refl (∂-groups (plus u v) L) (∂-groups v L)
      where
        joined : same_ends u v ≡ true → D (plus u v ∷ L) ≡ D (u ∷ v ∷ L)
        joined e = let h = when_true (same_ends? u v) e in ∂-merged (count d) φ u v (plus u v) L (refl, refl) (sym h.0, sym h.1) (count-plus u v)

        go : (b : Bool) → same_ends u v ≡ b → D (groups_from (plus u v) L) ≡ D (plus u v ∷ L) → D (groups_from v L) ≡ D (v ∷ L) → D (cond b (groups_from (plus u v) L) (u ∷ groups_from v L)) ≡ D (u ∷ v ∷ L)
        go true e h k = h ∙ joined e
        go false e h k = behind u (groups_from v L) (v ∷ L) k

    ∂-full : (K : List Segment) → D (keep full K) ≡ D K
    unfolding keep
    ∂-full [] = refl
    ∂-full (t ∷ K) = go (is_empty t) refl (∂-full K)
      where
        go : (b : Bool) → is_empty t ≡ b → D (keep full K) ≡ D K → D (keep full (t ∷ K)) ≡ D (t ∷ K)
        go true e h = ap D (keep_no full t K (rw e)) ∙ h ∙ sym (∂-dropped (count d) φ t K (count-empty t e))
        go false e h = ap D (keep-yes full t K (rw e)) ∙ behind t (keep full K) K h

    ∂-from : (u : Segment) (L : List Segment) → D (merged_from u L) ≡ D (u ∷ L)
    unfolding merged_from
    ∂-from u [] = refl
    ∂-from u (v ∷ L) = go (same_ends u v) (∂-from v L)
      where
        go : (b : Bool) → D (merged_from v L) ≡ D (v ∷ L) → D (cond b (keep full (groups_from u (v ∷ L))) (u ∷ merged_from v L)) ≡ D (u ∷ v ∷ L)
        go true h = ∂-full (groups_from u (v ∷ L)) ∙ ∂-groups u (v ∷ L)
        go false h = behind u (merged_from v L) (v ∷ L) h

    pub ∂-merging : (L : List Segment) → D (merged L) ≡ D L
    unfolding merged
    ∂-merging [] = refl
    ∂-merging (u ∷ L) = ∂-from u L

    -- all three: the list of the first look
    pub ∂-prepared : (L : List Segment) → D (merged (sorted (map forward L))) ≡ D L
    ∂-prepared L = ∂-merging (sorted (map forward L)) ∙ ∂-sorted (map forward L) ∙ ∂-forward L

  -- THE LAW
  pub prepared_balanced : (L : List Segment) → Balanced (count d) L ↔ Balanced (count d) (merged (sorted (map forward L)))
  prepared_balanced L =
      let K = merged (sorted (map forward L)) in
      (keeps (count d) (count d) L K (λ φ. sym (∂-prepared φ L)), keeps (count d) (count d) K L (λ φ. ∂-prepared φ L))
