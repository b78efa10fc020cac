-- How many pieces a segment becomes ("Splitting"): one more than it has marks.
use Rattle.std.specs.Prelude.{◌≡◌, refl, Bool, true, false, cond, List, [], ◌∷◌, reverse, ℕ, suc, ◌+◌, length}
use Rattle.std.proofs.Common.{ap, ◌∙◌, arith, length-append}
use Rattle.std.proofs.lemmas.List.{length-reverse}
use Rattle.std.specs.Int.Signed.{lt_z}
use Rattle.geom.specs.declared.Point.{Point}
use Rattle.geom.specs.declared.Segment.{Segment}
use Rattle.geom.specs.Plane.{sameZ}
use Rattle.split.specs.Chain.{add_to, columns, next_y, last_of, chain_from, chain, pieces_from}

pub length-pieces : (v : Segment) (p : Point) (ps : List Point) → length (pieces_from v p ps) ≡ suc (length ps)
unfolding pieces_from
length-pieces v p [] = refl
length-pieces v p (q ∷ ps) = ap suc (length-pieces v q ps)

-- the points of all columns
total : List (List Point) → ℕ
total [] = 0
total (g ∷ gs) = length g + total gs

total-add : (p : Point) (gs : List (List Point)) → total (add_to p gs) ≡ suc (total gs)
unfolding add_to total
total-add p [] = refl
total-add p ([] ∷ gs) = omega arith
total-add p ((q ∷ g) ∷ gs) = by_test (sameZ p.x.0 q.x.0)
  where
    by_test : (t : Bool) → total (cond t ((p ∷ q ∷ g) ∷ gs) ((p ∷ []) ∷ (q ∷ g) ∷ gs)) ≡ suc (suc (length g) + total gs)
    by_test true = omega arith
    by_test false = omega arith

total-columns : (ps : List Point) → total (columns ps) ≡ length ps
unfolding columns total
total-columns [] = refl
total-columns (p ∷ ps) = total-add p (columns ps) ∙ ap suc (total-columns ps)

either_way : (t : Bool) (g : List Point) → length (cond t (reverse g) g) ≡ length g
either_way true g = length-reverse g
either_way false g = refl

length-chain_from : (p b : Point) (gs : List (List Point)) → length (chain_from p b gs) ≡ total gs
unfolding chain_from total
length-chain_from p b [] = refl
length-chain_from p b (g ∷ gs) =
    let t = lt_z (next_y b gs) p.y.0 in
    let h = cond t (reverse g) g in
    length-append h (chain_from (last_of p h) b gs) ∙ omega (arith, either_way t g, length-chain_from (last_of p h) b gs)

pub length_cut : (v : Segment) (ps : List Point) → length (pieces_from v v.a (chain v ps)) ≡ suc (length ps)
length_cut v ps =
    length-pieces v v.a (chain v ps) ∙ ap suc (length-chain_from v.a v.b (columns ps) ∙ total-columns ps)
