-- Splitting at the marks of a look gives segments on the grid that run forward: the marks of a segment are different points (they are tidied) and none is an end of
-- it, so the two ends of each piece differ, and it is turned as needed.
use Rattle.std.specs.Prelude.{◌≡◌, Bool, true, List, [], ◌∷◌, ◌++◌, map, ◌≢◌, ℕ, suc, pos}
use Rattle.std.proofs.Common.{ap₂, sym, ◌∙◌, arith}
use Rattle.std.specs.Int.Signed.{lt_z}
use Rattle.whole.specs.Lex.{whole}
use Rattle.whole.specs.Total.{Total}
use Rattle.whole.specs.Sorting.{sort}
use Rattle.whole.proofs.SortingLaws.{sort_sorted}
use Rattle.whole.specs.Sum.{All, none, also, Pairs, no_pair, pair}
use Rattle.whole.proofs.SumLaws.{all_map, all_both, all_of, all_append, all-over, all-sort, all_keep, pairs_keep}
use Rattle.whole.proofs.KindSortLaws.{by_numbers_lem}
use Rattle.geom.specs.declared.Point.{Point}
use Rattle.geom.specs.declared.Segment.{Segment}
use Rattle.geom.specs.Plane.{GridPoint, grid_point, sameZ}
use Rattle.geom.specs.Order.{before-differ}
use Rattle.geom.specs.Tests.{same?, holds, when_true}
use Rattle.geom.proofs.TestsLaws.{grid_point?}
use Rattle.plane.specs.NoEnd.{NoEnd}
use Rattle.segm.specs.Forward.{forward}
use Rattle.segm.specs.ForwardLaws.{forward-grid, forward_runs}
use Rattle.split.specs.declared.answer.Mark.{Mark}
use Rattle.split.specs.Marks.{marks}
use Rattle.split.specs.Look.{mark_order, same_mark, tidy, look}
use Rattle.split.proofs.LookLaws.{cut_on_grid, look_cuts}
use Rattle.split.specs.Chain.{points_of, chain, pieces_from, split_from}
use Rattle.split.proofs.Tidying.{same_mark?}
use Rattle.overlay.specs.Looks.{radius}
use Rattle.demands.specs.Chain.{cut}
use Rattle.whole.proofs.DistinctLaws.{distinct_apart, distinct-all}
use Rattle.demands.specs.Clear.{Clear, step}
use Rattle.demands.proofs.ClearLaws.{clear_of}
use Rattle.demands.specs.Once.{Once, next_differs}
use Rattle.demands.proofs.OnceLaws.{from_a_to_b, chain-all}
use Rattle.demands.specs.Pieces.{Good}

-- ---- tidy marks

pub mark-order : Total mark_order
mark-order = by_numbers_lem marks lt_z whole

tidy-apart : (ms : List Mark) → Pairs ◌≢◌ (tidy ms)
unfolding tidy
tidy-apart ms = distinct_apart mark-order same_mark same_mark? (sort mark_order ms) (sort_sorted mark-order ms)

pub tidy-all : {P : Mark → Type 0} {ms : List Mark} → All P ms → All P (tidy ms)
unfolding tidy
tidy-all h = distinct-all same_mark (all-sort mark_order h)

-- ---- the points of one segment
module _ (i : ℕ) where
  abbrev mine : Mark → Bool
  mine m = sameZ m.segment (pos i)

  mine_is : (m : Mark) → mine m ≡ true → m.segment ≡ pos i
  mine_is m e = when_true (same? m.segment (pos i)) e

  by_point : {m n : Mark} → m.segment ≡ pos i → n.segment ≡ pos i → m ≢ n → m.point ≢ n.point
  by_point e f d z = d (ap₂ (λ s p. record { segment = s; point = p }) (e ∙ sym f) z)

  by_points : {ms : List Mark} → All (λ m. m.segment ≡ pos i) ms → Pairs ◌≢◌ ms → Pairs ◌≢◌ (map (λ m. m.point) ms)
  by_points none no_pair = no_pair
  by_points (also e es) (pair h k) = pair (all-over (λ m. m.point) (all_map (λ m r. by_point e r.0 r.1) (all_both es h))) (by_points es k)

  points-apart : {ms : List Mark} → Pairs ◌≢◌ ms → Pairs ◌≢◌ (points_of i ms)
  unfolding points_of
  points-apart {ms} d = by_points (all_map (λ m k. mine_is m k.0) (all_keep mine (all_of {P = λ m. Unit {0}} ms (λ m. tt)))) (pairs_keep mine d)

  points-all : {P : Point → Type 0} {ms : List Mark} → All (λ m. m.segment ≡ pos i → P m.point) ms → All P (points_of i ms)
  unfolding points_of
  points-all h = all-over (λ m. m.point) (all_map (λ m k. k.1 (mine_is m k.0)) (all_keep mine h))

-- ---- the pieces

abbrev piece : Segment → Point → Point → Segment
piece v p q = record { a = p; b = q; subject = v.subject; clip = v.clip }

good : (v : Segment) (p q : Point) → GridPoint p → GridPoint q → p ≢ q → Good (forward (piece v p q))
good v p q g h n = (forward-grid (piece v p q) (record { a = g; b = h }), forward_runs (piece v p q) n)

pieces-good : (v : Segment) (p : Point) {ps : List Point} → GridPoint p → All GridPoint ps → GridPoint v.b → Once (p ∷ (ps ++ v.b ∷ [])) → All Good (pieces_from v p ps)
unfolding pieces_from
pieces-good v p g none k h = also (good v p v.b g k (next_differs p v.b [] h)) none
pieces-good v p g (also {t = q} {L = ps} f fs) k h = also (good v p q g f (next_differs p q (ps ++ v.b ∷ []) h)) (pieces-good v q f fs k (λ x. let z = h x in omega arith))

-- the marks of one segment, in the order in which they cut it
module _ (v : Segment) {ps : List Point} where
  chain-grid : All GridPoint ps → All GridPoint (chain v ps)
  chain-grid h = all_map (λ p. when_true (grid_point? p)) (chain-all grid_point v (all_map (λ p. holds (grid_point? p)) h))

  cut-good : Good v → Pairs ◌≢◌ ps → All (NoEnd v) ps → All GridPoint ps → All Good (pieces_from v v.a (chain v ps))
  cut-good g d n h = pieces-good v v.a g.0.a (chain-grid h) g.0.b (from_a_to_b v ps (before-differ g.1) d n)

-- a mark, against a list whose first segment is number i
abbrev Fair : ℕ → List Segment → Mark → Type 0
Fair i L m = GridPoint m.point × Clear i L m

split_good : (i : ℕ) (ms : List Mark) {L : List Segment} → Pairs ◌≢◌ ms → All (Fair i L) ms → All Good L → All Good (split_from i ms L)
unfolding split_from
split_good i ms d c none = none
split_good i ms d c (also {t = v} {L = L} g gs) =
    all_append
    (cut-good v g (points-apart i d) (points-all i (all_map (λ m r. first r.1) c)) (points-all i (all_map (λ m r e. r.0) c)))
    (split_good (suc i) ms d (all_map (λ m r. (r.0, rest r.1)) c) gs)
  where
    first : {m : Mark} → Clear i (v ∷ L) m → m.segment ≡ pos i → NoEnd v m.point
    first (step f r) = f

    rest : {m : Mark} → Clear i (v ∷ L) m → Clear (suc i) L m
    rest (step f r) = r

-- THE LAW
pub cut_is_good : {L : List Segment} → All Good L → All Good (cut L)
cut_is_good {L} h =
    split_good 0 (tidy (look radius L)) (tidy-apart (look radius L)) (tidy-all (all_map (λ m c. (cut_on_grid c, clear_of c)) (look_cuts radius L (all_map (λ t g. g.0) h)))) h
