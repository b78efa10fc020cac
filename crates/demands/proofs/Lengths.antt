-- How long the lists of a run are: cutting adds at most a segment for each mark, so where the run goes on every list has room in the work list.
use Rattle.std.specs.Prelude.{◌≡◌, refl, Bool, true, false, cond, List, [], ◌∷◌, map, ℕ, suc, ◌+◌, ◌≤◌, ◌<◌, pos, length}
use Rattle.std.proofs.Common.{ap, ◌∙◌, arith, length-append}
use Rattle.std.proofs.lemmas.List.{length-map}
use Rattle.whole.proofs.SortingLaws.{sort-length, perm-length}
use Rattle.whole.specs.Sum.{keep}
use Rattle.whole.proofs.SumLaws.{keep-yes, keep_no}
use Rattle.geom.specs.declared.Point.{Point}
use Rattle.geom.specs.declared.Segment.{Segment}
use Rattle.geom.specs.Plane.{sameZ}
use Rattle.geom.specs.Tests.{Decides, yes, no, fails, same?}
use Rattle.segm.specs.Forward.{forward, in_order, sorted}
use Rattle.segm.proofs.MergeLaws.{merged-length}
use Rattle.split.specs.declared.answer.Mark.{Mark}
use Rattle.split.specs.Look.{look, tidy}
use Rattle.split.specs.Chain.{points_of, chain, pieces_from, split_from}
use Rattle.overlay.specs.Looks.{radius}
use Rattle.demands.specs.Chain.{start, cut, next, Looks, empty, done, again}
use Rattle.demands.specs.Exactly.{Allowed, rests, goes_on}
use Rattle.demands.proofs.OnceLaws.{chain-perm}

-- ---- the marks by the segments that they name, from number i on

abbrev named : ℕ → List Segment → List Mark → ℕ
named i [] ms = 0
named i (v ∷ L) ms = length (points_of i ms) + named (suc i) L ms

abbrev hits : ℕ → List Segment → Mark → ℕ
hits i [] m = 0
hits i (v ∷ L) m = cond (sameZ m.segment (pos i)) 1 0 + hits (suc i) L m

one_more : (i : ℕ) (m : Mark) (ms : List Mark) → length (points_of i (m ∷ ms)) ≡ cond (sameZ m.segment (pos i)) 1 0 + length (points_of i ms)
unfolding points_of
one_more i m ms = go (sameZ m.segment (pos i)) refl
  where
    go : (b : Bool) → sameZ m.segment (pos i) ≡ b
        → length (map (λ k. k.point) (keep (λ k. sameZ k.segment (pos i)) (m ∷ ms))) ≡ cond b 1 0 + length (map (λ k. k.point) (keep (λ k. sameZ k.segment (pos i)) ms))
    go true e = ap (λ ks. length (map (λ k. k.point) ks)) (keep-yes (λ k. sameZ k.segment (pos i)) m ms e) ∙ omega arith
    go false e = ap (λ ks. length (map (λ k. k.point) ks)) (keep_no (λ k. sameZ k.segment (pos i)) m ms e) ∙ omega arith

past : (i j : ℕ) (L : List Segment) (m : Mark) → m.segment ≡ pos i → i < j → hits j L m ≡ 0
past i j [] m e h = refl
past i j (v ∷ L) m e h =
    let differ : m.segment ≡ pos j → ⊥ = λ f. let z : i ≡ j = cc in omega arith in
    let z : ◌≡◌ {A = ℕ} (cond (sameZ m.segment (pos j)) 1 0) 0 = rw (fails (same? m.segment (pos j)) differ) in
    omega (arith, past i (suc j) L m e (omega arith))

-- a mark names one segment
hits-one : (i : ℕ) (L : List Segment) (m : Mark) → hits i L m ≤ 1
hits-one i [] m = omega arith
hits-one i (v ∷ L) m = go (same? m.segment (pos i)) (hits-one (suc i) L m)
  where
    go : {b : Bool} → Decides (m.segment ≡ pos i) b → hits (suc i) L m ≤ 1 → cond b 1 0 + hits (suc i) L m ≤ 1
    go (yes e) h = omega (arith, past i (suc i) L m e (omega arith))
    go (no n) h = omega arith

named_more : (i : ℕ) (L : List Segment) (m : Mark) (ms : List Mark) → named i L (m ∷ ms) ≡ hits i L m + named i L ms
named_more i [] m ms = refl
named_more i (v ∷ L) m ms = omega (arith, one_more i m ms, named_more (suc i) L m ms)

named_none : (i : ℕ) (L : List Segment) → named i L [] ≡ 0
unfolding points_of keep
named_none i [] = refl
named_none i (v ∷ L) = omega (arith, named_none (suc i) L)

named-most : (i : ℕ) (L : List Segment) (ms : List Mark) → named i L ms ≤ length ms
named-most i L [] = omega (arith, named_none i L)
named-most i L (m ∷ ms) = omega (arith, named_more i L m ms, hits-one i L m, named-most i L ms)

-- ---- the pieces

pieces-length : (v : Segment) (p : Point) (ps : List Point) → length (pieces_from v p ps) ≡ suc (length ps)
unfolding pieces_from
pieces-length v p [] = refl
pieces-length v p (q ∷ ps) = ap suc (pieces-length v q ps)

split-length : (i : ℕ) (ms : List Mark) (L : List Segment) → length (split_from i ms L) ≡ length L + named i L ms
unfolding split_from
split-length i ms [] = refl
split-length i ms (v ∷ L) =
    let ps = chain v (points_of i ms) in
    omega
    (arith, length-append (pieces_from v v.a ps) (split_from (suc i) ms L), pieces-length v v.a ps, perm-length ps (points_of i ms) (chain-perm v (points_of i ms)), split-length (suc i) ms L)

next_fits : {work : ℕ} (L : List Segment) → length L + length (tidy (look radius L)) ≤ work → length (next L) ≤ work
next_fits L h =
    let ms = tidy (look radius L) in
    omega (arith, merged-length (sorted (cut L)), sort-length in_order (cut L), split-length 0 ms L, named-most 0 L ms)

pub start_fits : (L : List Segment) → length (start L) ≤ length L
start_fits L = omega (arith, merged-length (sorted (map forward L)), sort-length in_order (map forward L), length-map L forward)

-- THE LAW
pub looks_fit : {room work left : ℕ} {L K : List Segment} {Ls : List (List Segment)} → Looks L Ls K → Allowed room work left L → length L ≤ work → length K ≤ work
looks_fit empty a h = h
looks_fit (done n e) a h = h
looks_fit (again n c) (rests e) h = absurd (n e)
looks_fit {L = L} (again n c) (goes_on {left = left} m p a) h = looks_fit {left = left} c a (next_fits L p.pieces)
