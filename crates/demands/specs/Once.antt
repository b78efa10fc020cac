-- Points of which none comes twice, said by counting. The marks of a segment in the order in which they cut it are the same points rearranged, so that a, the marks and
-- b are all different if the marks are and none is an end.
use Rattle.std.specs.Prelude.{◌≡◌, Bool, cond, ◌≢◌, ℕ, ◌+◌, ◌≤◌}
use Rattle.std.proofs.Math.Path.{refl}
use Rattle.std.proofs.Math.Bool.{true, false}
use mathlib.Core.List.{List, [], ◌∷◌, reverse_aux}
use native.Mathlib.Omega.{arith}
use Rattle.whole.specs.Sorting.{sum}
use Rattle.geom.specs.declared.Point.{Point}
use Rattle.geom.specs.Plane.{same_point, sameZ}
use Rattle.geom.specs.Tests.{holds}
use Rattle.geom.proofs.TestsLaws.{same_point?}
use Rattle.split.specs.Chain.{add_to}

-- how often x comes among points
abbrev at : Point → Point → ℕ
at x p = cond (same_point x p) 1 0

abbrev pub times : Point → List Point → ℕ
times x ps = sum (at x) ps

abbrev pub Once : List Point → Type 0
Once ps = (x : Point) → times x ps ≤ 1

pub at_same : {x p : Point} → x ≡ p → at x p ≡ 1
at_same {x} {p} e = rw (holds (same_point? x p) e)

-- ---- the chain holds what the marks hold
module _ (f : Point → ℕ) where
  abbrev whole : List (List Point) → ℕ
  whole gs = sum (λ g. sum f g) gs

  pub sum-turned : (g r : List Point) → sum f (reverse_aux g r) ≡ sum f g + sum f r
  sum-turned [] r = omega arith
  sum-turned (p ∷ g) r = omega (arith, sum-turned g (p ∷ r))

  pub sum_added : (p : Point) (gs : List (List Point)) → whole (add_to p gs) ≡ f p + whole gs
  unfolding add_to
  sum_added p [] = omega arith
  sum_added p ([] ∷ gs) = omega arith
  sum_added p ((q ∷ g) ∷ gs) = go (sameZ p.x.0 q.x.0)
    where
      go : (b : Bool) → whole (cond b ((p ∷ q ∷ g) ∷ gs) ((p ∷ []) ∷ (q ∷ g) ∷ gs)) ≡ f p + whole ((q ∷ g) ∷ gs)
      go true = omega arith
      go false = omega arith

-- two next to each other differ
pub next_differs : (p q : Point) (ps : List Point) → Once (p ∷ q ∷ ps) → p ≢ q
next_differs p q ps h e = let self : at p p ≡ 1 = at_same refl in omega (arith, h p, at_same e)
