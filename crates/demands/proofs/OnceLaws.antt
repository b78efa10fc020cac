-- Points of which none comes twice, said by counting. The marks of a segment in the order in which they cut it are the same points rearranged, so that a, the marks and
-- b are all different if the marks are and none is an end.
use Rattle.std.specs.Prelude.{◌≡◌, Bool, cond, ◌≢◌, ℕ, ◌+◌, ◌≤◌}
use Rattle.std.proofs.Math.Path.{refl}
use Rattle.std.proofs.Common.{sym, ◌∙◌}
use Rattle.std.proofs.Math.Bool.{true, false}
use mathlib.Core.List.{List, [], ◌∷◌, ◌++◌, reverse}
use native.Mathlib.Omega.{arith}
use Rattle.std.specs.Int.Signed.{lt_z}
use Rattle.whole.specs.Sorting.{sum, Perm}
use Rattle.whole.proofs.SortingLaws.{sum_of-append}
use Rattle.whole.specs.Sum.{All, none, also, Pairs, no_pair, pair}
use Rattle.whole.proofs.SumLaws.{all_map}
use Rattle.geom.specs.declared.Point.{Point}
use Rattle.geom.specs.declared.Segment.{Segment}
use Rattle.geom.specs.Plane.{same_point}
use Rattle.geom.specs.Tests.{Decides, yes, no, fails as refuted}
use Rattle.geom.proofs.TestsLaws.{same_point?}
use Rattle.plane.specs.NoEnd.{NoEnd}
use Rattle.split.specs.Chain.{columns, next_y, last_of, chain_from, chain}
use Rattle.demands.specs.Once.{Once, at_same, sum-turned, sum_added, times}

-- how often x comes among points
abbrev at : Point → Point → ℕ
at x p = cond (same_point x p) 1 0

at_other : {x p : Point} → x ≢ p → at x p ≡ 0
at_other {x} {p} n = rw (refuted (same_point? x p) n)

-- ---- different points

absent : (x : Point) {ps : List Point} → All (λ p. x ≢ p) ps → times x ps ≡ 0
absent x none = refl
absent x (also n h) = omega (arith, at_other n, absent x h)

pub once : {ps : List Point} → Pairs ◌≢◌ ps → Once ps
once no_pair x = omega arith
once (pair {t = p} {L = ps} h k) x = go (same_point? x p) (once k x)
  where
    go : {b : Bool} → Decides (x ≡ p) b → times x ps ≤ 1 → cond b 1 0 + times x ps ≤ 1
    go (yes e) m = let z = absent x (all_map (λ q n. λ f. n (sym e ∙ f)) h) in omega arith
    go (no n) m = omega arith

-- ---- the chain holds what the marks hold
module _ (f : Point → ℕ) where
  abbrev whole : List (List Point) → ℕ
  whole gs = sum (λ g. sum f g) gs

  sum-columns : (ps : List Point) → whole (columns ps) ≡ sum f ps
  unfolding columns
  sum-columns [] = refl
  sum-columns (p ∷ ps) = omega (arith, (sum_added f) p (columns ps), sum-columns ps)

  sum-chain : (p b : Point) (gs : List (List Point)) → sum f (chain_from p b gs) ≡ whole gs
  unfolding chain_from
  sum-chain p b [] = refl
  sum-chain p b (g ∷ gs) = go (lt_z (next_y b gs) p.y.0) (λ q. sum-chain q b gs)
    where
      go : (t : Bool) → ((q : Point) → sum f (chain_from q b gs) ≡ whole gs) → sum f (cond t (reverse g) g ++ chain_from (last_of p (cond t (reverse g) g)) b gs) ≡ sum f g + whole gs
      go true h = omega (arith, sum_of-append f (reverse g) (chain_from (last_of p (reverse g)) b gs), (sum-turned f) g [], h (last_of p (reverse g)))
      go false h = omega (arith, sum_of-append f g (chain_from (last_of p g) b gs), h (last_of p g))

pub chain-perm : (v : Segment) (ps : List Point) → Perm (chain v ps) ps
chain-perm v ps f = sum-chain f v.a v.b (columns ps) ∙ sum-columns f ps

-- so what every mark passes every point of the chain passes
module _ (test : Point → Bool) where
  abbrev fails : Bool → ℕ
  fails b = cond b 0 1

  abbrev failed : List Point → ℕ
  failed ps = sum (λ p. fails (test p)) ps

  none-failed : {ps : List Point} → All (λ p. test p ≡ true) ps → failed ps ≡ 0
  none-failed none = refl
  none-failed (also {t = p} e h) = let z : fails (test p) ≡ 0 = rw e in omega (arith, none-failed h)

  all_passed : (ps : List Point) → failed ps ≡ 0 → All (λ p. test p ≡ true) ps
  all_passed [] h = none
  all_passed (p ∷ ps) h = also (passed (test p) (omega arith)) (all_passed ps (omega arith))
    where
      passed : (b : Bool) → fails b ≡ 0 → b ≡ true
      passed true e = refl
      passed false e = absurd (omega arith)

  pub chain-all : (v : Segment) {ps : List Point} → All (λ p. test p ≡ true) ps → All (λ p. test p ≡ true) (chain v ps)
  chain-all v {ps} h = all_passed (chain v ps) (chain-perm v ps (λ p. fails (test p)) ∙ none-failed h)

-- ---- from a over the marks to b

pub from_a_to_b : (v : Segment) (ps : List Point) → v.a ≢ v.b → Pairs ◌≢◌ ps → All (NoEnd v) ps → Once (v.a ∷ (chain v ps ++ v.b ∷ []))
from_a_to_b v ps n d h x = go (same_point? x v.a) (same_point? x v.b)
  where
    total : times x (v.a ∷ (chain v ps ++ v.b ∷ [])) ≡ at x v.a + (times x ps + at x v.b)
    total = omega (arith, sum_of-append (at x) (chain v ps) (v.b ∷ []), chain-perm v ps (at x))

    go : {a b : Bool} → Decides (x ≡ v.a) a → Decides (x ≡ v.b) b → times x (v.a ∷ (chain v ps ++ v.b ∷ [])) ≤ 1
    go (yes e) k = omega (arith, total, at_same e, absent x (all_map (λ p m. λ f. m.not_a (sym f ∙ e)) h), at_other (λ f. n (sym e ∙ f)))
    go (no m) (yes e) = omega (arith, total, at_other m, absent x (all_map (λ p k. λ f. k.not_b (sym f ∙ e)) h), at_same e)
    go (no m) (no k) = omega (arith, total, at_other m, at_other k, once d x)
