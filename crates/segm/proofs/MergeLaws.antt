-- When merging answers which number (`enough`, `also-said`), and what it gives, from what the groups of equal neighbours have: merged L is some of `groups L` in their order. So its ends are ends of L
-- (`merged-ends`), it is no longer (`merged-length`), its counts are within ±(2^31 - 1) unless 9 is answered (`merged-near`), and of a list that stands by
-- its ends no two are left with the same ends (`merged-strict`).
use Rattle.std.specs.Prelude.{◌≡◌, Bool, not, List, [], ◌∷◌, ℕ, suc, ◌*◌, ◌≤◌, ◌<◌, ℤ, pos, negsuc, nat_abs, length, ltb, Result, Ok, Err}
use Rattle.std.proofs.Math.Path.{refl}
use Rattle.std.proofs.Common.{ap, ◌∙◌, arith}
use Rattle.std.proofs.Math.Bool.{true, false, cond}
use Rattle.std.proofs.Math.Logic.{inl, inr}
use Rattle.std.specs.Int.Signed.{lt_z}
use borrow.Author.Tests.{lt-ltb, le-ltb}
use Rattle.whole.specs.Order.{split, lt-false}
use Rattle.whole.specs.Sign.{abs_is}
use Rattle.whole.proofs.TestLaws.{neither, or_true}
use Rattle.whole.specs.Sum.{All, none, also, Pairs, no_pair, pair, keep}
use Rattle.whole.proofs.SumLaws.{all_map, keep-yes, keep_no, all_keep, pairs_keep}
use Rattle.geom.specs.declared.Point.{Point}
use Rattle.geom.specs.declared.Segment.{Segment}
use Rattle.geom.specs.Plane.{subject, clip}
use Rattle.geom.specs.Tests.{Decides, and, when_false}
use Rattle.geom.proofs.TestsLaws.{same_point?}
use Rattle.whole.specs.Kind.{rows_from}
use Rattle.geom.specs.Limits.{segment_limit}
use Rattle.geom.specs.Rows.{segments}
use Rattle.segm.specs.declared.Merged.{Merged}
use Rattle.segm.specs.declared.MergeError.{MergeError}
use Rattle.segm.specs.declared.MergeError.TheVariants.{Short, TooBig}
use Rattle.segm.specs.Forward.{sorted}
use Rattle.groups.specs.Group.{is_empty, is_far}
use Rattle.segm.specs.Merge.{same_ends, plus, groups_from, groups, merged_from, merged, paired, any_far, too_big, too_short, merge_answer, only, merge_says, merge_said}
use Rattle.segm.specs.Order.{EndsBefore, by_a, by_b, SameEnds, EndsUpto, ends-trans, by_ends}
use Rattle.segm.specs.MergeLaws.{Near}

pub same_ends? : (u v : Segment) → Decides (SameEnds u v) (same_ends u v)
unfolding same_ends
same_ends? u v = and (same_point? u.a v.a) (same_point? u.b v.b)

-- ---- the answers
module _ (xs : List ℤ) (n : ℕ) where
  pub over_limit : segment_limit < n → too_short xs n ≡ true
  unfolding too_short
  over_limit h = rw (lt-ltb segment_limit n h)

  pub no_room : length xs < 6 * n → too_short xs n ≡ true
  unfolding too_short
  no_room h = rw (lt-ltb (length xs) (6 * n) h) (or_true (ltb segment_limit n))

  pub enough : n ≤ segment_limit → 6 * n ≤ length xs → too_short xs n ≡ false
  unfolding too_short
  enough h k = rw (le-ltb segment_limit n h, le-ltb (length xs) (6 * n) k)

  -- an answer is that number and those values
  pub also-said : {P : Type 0} {r : Result Merged MergeError} → (r ≡ merge_answer xs n) × P → (r ≡ merge_answer xs n) × ((merge_says r ≡ merge_said xs n) × P)
  unfolding merge_answer merge_said
  also-said e = let L = rows_from segments xs 0 n in (e.0, (ap merge_says e.0 ∙ by_tests (too_short xs n) (too_big L) (paired L) (length (merged L)), e.1))
    where
      by_tests : (s t p : Bool) (k : ℕ) → merge_says (cond s (Err Short) (cond t (Err TooBig) (Ok (record { left = k; joined = p })))) ≡ cond s (only 1) (cond t (only 9) (record { answer = 0; joined = p; segments = k }))
      by_tests true t p k = refl
      by_tests false true p k = refl
      by_tests false false p k = refl

-- ---- some of the groups, in their order

all_from : {P : Segment → Type 0} (u : Segment) (L : List Segment) → All P (groups_from u L) → All P (merged_from u L)
unfolding groups_from merged_from
all_from u [] h = h
all_from {P} u (v ∷ L) h = go (same_ends u v) h (all_from v L)
  where
    go : (b : Bool) → All P (cond b (groups_from (plus u v) L) (u ∷ groups_from v L)) → (All P (groups_from v L) → All P (merged_from v L)) → All P (cond b (keep (λ g. not (is_empty g)) (cond b (groups_from (plus u v) L) (u ∷ groups_from v L))) (u ∷ merged_from v L))
    go true h f = all_map (λ t m. m.1) (all_keep (λ g. not (is_empty g)) h)
    go false (also p h) f = also p (f h)

pairs_from : {R : Segment → Segment → Type 0} (u : Segment) (L : List Segment) → Pairs R (groups_from u L) → Pairs R (merged_from u L)
unfolding groups_from merged_from
pairs_from u [] h = h
pairs_from {R} u (v ∷ L) h = go (same_ends u v) h (pairs_from v L)
  where
    go : (b : Bool) → Pairs R (cond b (groups_from (plus u v) L) (u ∷ groups_from v L)) → (Pairs R (groups_from v L) → Pairs R (merged_from v L)) → Pairs R (cond b (keep (λ g. not (is_empty g)) (cond b (groups_from (plus u v) L) (u ∷ groups_from v L))) (u ∷ merged_from v L))
    go true h f = pairs_keep (λ g. not (is_empty g)) h
    go false (pair p h) f = pair (all_from v L p) (f h)

pub merged-all : {P : Segment → Type 0} (L : List Segment) → All P (groups L) → All P (merged L)
unfolding groups merged
merged-all [] h = h
merged-all (u ∷ L) h = all_from u L h

pub merged_pairs : {R : Segment → Segment → Type 0} (L : List Segment) → Pairs R (groups L) → Pairs R (merged L)
unfolding groups merged
merged_pairs [] h = h
merged_pairs (u ∷ L) h = pairs_from u L h

-- ---- ends
module _ (P : Point → Point → Type 0) where
  abbrev EndsHave : Segment → Type 0
  EndsHave t = P t.a t.b

  ends_from : (u : Segment) {L : List Segment} → EndsHave u → All EndsHave L → All EndsHave (groups_from u L)
  unfolding groups_from plus
  ends_from u h none = also h none
  ends_from u h (also {t = v} {L = L} k m) = go (same_ends u v) (ends_from (plus u v) h m) (ends_from v k m)
    where
      go : (b : Bool) → All EndsHave (groups_from (plus u v) L) → All EndsHave (groups_from v L) → All EndsHave (cond b (groups_from (plus u v) L) (u ∷ groups_from v L))
      go true r s = r
      go false r s = also h s

  pub groups-ends : {L : List Segment} → All EndsHave L → All EndsHave (groups L)
  unfolding groups
  groups-ends none = none
  groups-ends (also {t = u} h k) = ends_from u h k

  -- what the two ends of every segment have they have after merging
  pub merged-ends : {L : List Segment} → All EndsHave L → All EndsHave (merged L)
  merged-ends {L} h = merged-all L (groups-ends h)

-- ---- the number of segments

keep-length : {A : Type 0} (p : A → Bool) (L : List A) → length (keep p L) ≤ length L
unfolding keep
keep-length p [] = omega arith
keep-length p (t ∷ L) = go (p t) refl (keep-length p L)
  where
    go : (b : Bool) → p t ≡ b → length (keep p L) ≤ length L → length (keep p (t ∷ L)) ≤ suc (length L)
    go true e h = rw (keep-yes p t L e) (omega arith)
    go false e h = rw (keep_no p t L e) (omega arith)

groups-length : (u : Segment) (L : List Segment) → length (groups_from u L) ≤ suc (length L)
unfolding groups_from
groups-length u [] = omega arith
groups-length u (v ∷ L) = go (same_ends u v) (groups-length (plus u v) L) (groups-length v L)
  where
    go : (b : Bool) → length (groups_from (plus u v) L) ≤ suc (length L) → length (groups_from v L) ≤ suc (length L) → length (cond b (groups_from (plus u v) L) (u ∷ groups_from v L)) ≤ suc (suc (length L))
    go true h k = omega arith
    go false h k = omega arith

length_from : (u : Segment) (L : List Segment) → length (merged_from u L) ≤ suc (length L)
unfolding merged_from
length_from u [] = omega arith
length_from u (v ∷ L) = go (same_ends u v) (keep-length (λ g. not (is_empty g)) (groups_from u (v ∷ L))) (groups-length u (v ∷ L)) (length_from v L)
  where
    go : (b : Bool) → length (keep (λ g. not (is_empty g)) (groups_from u (v ∷ L))) ≤ length (groups_from u (v ∷ L)) → length (groups_from u (v ∷ L)) ≤ suc (suc (length L)) → length (merged_from v L) ≤ suc (length L) → length (cond b (keep (λ g. not (is_empty g)) (groups_from u (v ∷ L))) (u ∷ merged_from v L)) ≤ suc (suc (length L))
    go true h k m = omega arith
    go false h k m = omega arith

pub merged-length : (L : List Segment) → length (merged L) ≤ length L
unfolding merged
merged-length [] = omega arith
merged-length (u ∷ L) = length_from u L

pub not_far : (z : ℤ) → is_far z ≡ false → nat_abs z ≤ 2147483647
unfolding is_far
not_far z e =
    let h = neither (lt_z z (negsuc 2147483646)) (lt_z (pos 2147483647) z) e in
    omega (arith, abs_is z, split z, lt-false z (negsuc 2147483646) h.0, lt-false (pos 2147483647) z h.1)

near-all : (L : List Segment) → any_far L ≡ false → All Near L
unfolding any_far
near-all [] e = none
near-all (g ∷ L) e =
    let h = neither _ _ e in
    let k = neither _ _ h.0 in
    also (near k.0 k.1) (near-all L h.1)
  where
    near : is_far g.subject.0 ≡ false → is_far g.clip.0 ≡ false → Near g
    near p q subject = not_far g.subject.0 p
    near p q clip = not_far g.clip.0 q

pub merged-near : (L : List Segment) → too_big L ≡ false → All Near (merged L)
merged-near L e = merged-all L (near-all (groups L) e)

-- ---- a list that stands by its ends
-- a group stands where its first segment does
module _ (u v : Segment) {t : Segment} where
  to_group : EndsUpto u t → EndsUpto (plus u v) t
  unfolding plus
  to_group (inl (by_a h)) = inl (by_a h)
  to_group (inl (by_b e h)) = inl (by_b e h)
  to_group (inr e) = inr e

  of_group : EndsUpto (plus u v) t → EndsUpto u t
  unfolding plus
  of_group (inl (by_a h)) = inl (by_a h)
  of_group (inl (by_b e h)) = inl (by_b e h)
  of_group (inr e) = inr e

abbrev Strict : Segment → List Segment → Type 0
Strict u K = All (EndsUpto u) K × Pairs EndsBefore K

strict_from : (u : Segment) (L : List Segment) → All (EndsUpto u) L → Pairs EndsUpto L → Strict u (groups_from u L)
unfolding groups_from
strict_from u [] h r = (also (inr (refl, refl)) none, pair none no_pair)
strict_from u (v ∷ L) (also h k) (pair m r) = go (same_ends u v) (same_ends? u v) (strict_from (plus u v) L (all_map (λ t q. to_group u v q) k) r) (strict_from v L m r)
  where
    apart : EndsUpto u v → (SameEnds u v → ⊥) → EndsBefore u v
    apart (inl b) n = b
    apart (inr s) n = absurd (n s)

    go : (b : Bool) → Decides (SameEnds u v) b → Strict (plus u v) (groups_from (plus u v) L) → Strict v (groups_from v L) → Strict u (cond b (groups_from (plus u v) L) (u ∷ groups_from v L))
    go true d x y = (all_map (λ t q. of_group u v q) x.0, x.1)
    go false d x y =
        let before = apart h (when_false d refl) in
        let after = all_map (λ t q. ends-trans before q) y.0 in
        (also (inr (refl, refl)) (all_map (λ t q. inl q) after), pair after y.1)

pub merged-strict : (L : List Segment) → Pairs EndsUpto L → Pairs EndsBefore (merged L)
unfolding groups
merged-strict [] no_pair = merged_pairs [] no_pair
merged-strict (u ∷ L) (pair h k) = merged_pairs (u ∷ L) (strict_from u L h k).1

-- THE LAW
pub sorted_merged : (L : List Segment) → Pairs EndsBefore (merged (sorted L))
sorted_merged L = merged-strict (sorted L) (by_ends L)
