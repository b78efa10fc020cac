-- Merging is a pass whose state is the open group: what the definition still leaves, once the rows before are in the group, is what the
-- pass still gives. Before the first equal pair every group is left as it stands; from it on the empty ones are not.
use mathlib.Core.Path.{◌≡◌, refl, sym, ap, ◌∙◌}
use mathlib.Core.Bool.{Bool, true, false, not, cond, ◌&&◌, ◌||◌}
use mathlib.Core.List.{List, [], ◌∷◌, ◌++◌}
use Rattle.whole.specs.Pass.{Pass, pass}
use Rattle.whole.specs.Sum.{keep}
use Rattle.whole.proofs.SumLaws.{keep-yes, keep_no}
use Rattle.geom.specs.declared.Segment.{Segment}
use Rattle.groups.specs.declared.Group.{Group}
use Rattle.groups.specs.Group.{is_empty, joint, alone, with_one, far_group, is_dropped, left}
use Rattle.segm.specs.Merge.{same_ends, plus, groups_from, merged_from, paired_from, any_far}
use Rattle.whole.proofs.TestLaws.{or_true, or_false}

abbrev pub merging : Pass Segment Group
merging =
    record {
      emit = λ g v. cond (same_ends (joint g) v) [] (left g);
      next = λ g v. cond (same_ends (joint g) v) (with_one g v) (alone v g.met);
      last = left;
    }

abbrev full : Segment → Bool
full v = not (is_empty v)

kept : (u : Segment) (L : List Segment) → keep full (u ∷ L) ≡ cond (is_empty u) [] (u ∷ []) ++ keep full L
kept u L = go (is_empty u) refl
  where
    go : (b : Bool) → is_empty u ≡ b → keep full (u ∷ L) ≡ cond b [] (u ∷ []) ++ keep full L
    go true e = keep_no full u L (rw e)
    go false e = keep-yes full u L (rw e)

-- ---- from a state on: the segments, whether a total is outside, whether there is an equal pair

still : Group → List Segment → List Segment
still g L = cond g.met (keep full (groups_from (joint g) L)) (merged_from (joint g) L)

abbrev pub far_on : Group → List Segment → Bool
far_on g L = any_far (groups_from (joint g) L)

abbrev pub paired_on : Group → List Segment → Bool
paired_on g L = g.met || paired_from (joint g) L

module _ (g : Group) where
  still_end : still g [] ≡ left g
  unfolding still groups_from merged_from left is_dropped keep
  still_end = go g.met (is_empty (joint g)) (kept (joint g) [])
    where
      go : (m e : Bool) → keep full (joint g ∷ []) ≡ cond e [] (joint g ∷ []) ++ [] → cond m (keep full (joint g ∷ [])) (joint g ∷ []) ≡ cond (m && e) [] (joint g ∷ [])
      go true true k = k
      go true false k = k
      go false e k = refl

  pub far-end : far_on g [] ≡ far_group g
  unfolding groups_from any_far far_group
  far-end = or_false (far_group g)

  pub paired-end : paired_on g [] ≡ g.met
  unfolding paired_from
  paired-end = or_false g.met

  module _ (v : Segment) (L : List Segment) where
    module _ (e : same_ends (joint g) v ≡ true) where
      still_same : still g (v ∷ L) ≡ still (with_one g v) L
      unfolding still groups_from merged_from plus
      still_same = go g.met
        where
          go : (m : Bool) → cond m (keep full (groups_from (joint g) (v ∷ L))) (merged_from (joint g) (v ∷ L)) ≡ keep full (groups_from (joint (with_one g v)) L)
          go true = rw e
          go false = rw e

      pub far-same : far_on g (v ∷ L) ≡ far_on (with_one g v) L
      unfolding groups_from plus
      far-same = rw e

      pub paired_same : paired_on g (v ∷ L) ≡ true
      unfolding paired_from
      paired_same = rw e (or_true g.met)

    module _ (e : same_ends (joint g) v ≡ false) where
      still_next : still g (v ∷ L) ≡ left g ++ still (alone v g.met) L
      unfolding still groups_from merged_from left is_dropped
      still_next = rw e (go g.met)
        where
          go : (m : Bool) → cond m (keep full (joint g ∷ groups_from v L)) (joint g ∷ merged_from v L) ≡ cond (m && is_empty (joint g)) [] (joint g ∷ []) ++ cond m (keep full (groups_from v L)) (merged_from v L)
          go true = kept (joint g) (groups_from v L)
          go false = refl

      pub far-next : far_group g ≡ false → far_on g (v ∷ L) ≡ far_on (alone v g.met) L
      unfolding groups_from any_far far_group
      far-next b = rw (e, b)

      pub far-here : far_group g ≡ true → far_on g (v ∷ L) ≡ true
      unfolding groups_from any_far far_group
      far-here b = rw (e, b)

      pub paired-next : paired_on g (v ∷ L) ≡ paired_on (alone v g.met) L
      unfolding paired_from
      paired-next = rw e

pass_still : (g : Group) (L : List Segment) → pass merging g L ≡ still g L
unfolding pass
pass_still g [] = sym (still_end g)
pass_still g (v ∷ L) = go (same_ends (joint g) v) refl (pass_still (with_one g v) L) (pass_still (alone v g.met) L)
  where
    go : (b : Bool) → same_ends (joint g) v ≡ b → pass merging (with_one g v) L ≡ still (with_one g v) L → pass merging (alone v g.met) L ≡ still (alone v g.met) L → cond b [] (left g) ++ pass merging (cond b (with_one g v) (alone v g.met)) L ≡ still g (v ∷ L)
    go true e h k = h ∙ sym (still_same g v L e)
    go false e h k = ap (λ K. left g ++ K) k ∙ sym (still_next g v L e)

-- THE LAW
pub pass-merged : (v : Segment) (L : List Segment) → pass merging (alone v false) L ≡ merged_from v L
unfolding still
pass-merged v L = pass_still (alone v false) L
