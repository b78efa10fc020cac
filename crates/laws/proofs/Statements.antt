-- The laws of this crate, each in one sentence. L is a list of segments; w a weight of segments, such as either count.
use Rattle.std.specs.Prelude.{◌≡◌, List, map, Bool, ◌↔◌, T, ℤ, pos, ◌*ℤ◌, ◌<ℤ◌}
use Rattle.whole.specs.Sum.{All, Over, keep, In}
use Rattle.geom.specs.declared.Point.{Point}
use Rattle.geom.specs.declared.Segment.{Segment}
use Rattle.geom.specs.Plane.{Side, count, Before}
use Rattle.geom.specs.Off.{Off, cross}
use Rattle.segm.specs.Forward.{forward, sorted}
use Rattle.segm.specs.Merge.{merged}
use Rattle.segm.specs.Balance.{Balanced, balanced}
use Rattle.segm.specs.BalanceLaws.{balanced_test}
use Rattle.split.specs.declared.answer.Mark.{Mark}
use Rattle.split.specs.Chain.{split}
use Rattle.edges.specs.Below.{below, live}
use Rattle.scan.specs.Masks.{bottom, top}
use Rattle.laws.specs.Sides.{bottom-end, left_side}
use Rattle.laws.specs.Ray.{ray}
use Rattle.laws.specs.Boundary.{∂}
use Rattle.laws.proofs.BoundaryLaws.{balanced_is, region}
use Rattle.laws.proofs.Prepared.{prepared_balanced}
use Rattle.laws.proofs.Cuts.{split-balanced}
use Rattle.laws.specs.Settled.{Settled}
use Rattle.laws.proofs.AlongLaws.{both_ends}
use Rattle.laws.proofs.Upright.{left_is_top}
use Rattle.laws.specs.Law.{sign, sign_of_sides}
use Rattle.laws.proofs.LawLaws.{sign_law, sides_law}
use Rattle.scan.specs.Live.{sweep}
use Rattle.laws.specs.Beside.{Beside}
use Rattle.laws.proofs.BesideLaws.{ray-over, ray-under}
use Rattle.laws.specs.Level.{Level}
use Rattle.laws.proofs.BesideUpright.{ray-right, ray-left}
use Rattle.laws.specs.Moves.{Misses}
use Rattle.laws.proofs.MovesLaws.{ray_moves}

-- ---- balance

-- what starts weighs as much as what ends, at every point: exactly if Σ w (φ a - φ b) is zero for every function φ of points
boundary : (w : Segment → ℤ) (L : List Segment) → Balanced w L ↔ ((φ : Point → ℤ) → ∂ w φ L ≡ pos 0)
boundary = balanced_is

-- and then over every region of the plane
regions : (w : Segment → ℤ) (L : List Segment) → Balanced w L → (R : Point → Bool) → Over w (λ t. R t.a) L ≡ Over w (λ t. R t.b) L
regions = region

-- the test at the ends of the list decides it (refusal 6)
tested_at_ends : (w : Segment → ℤ) (L : List Segment) → T (balanced w L) ↔ Balanced w L
tested_at_ends = balanced_test

-- turning forward, sorting and merging keep it, and so does splitting
prepared : (d : Side) (L : List Segment) → Balanced (count d) L ↔ Balanced (count d) (merged (sorted (map forward L)))
prepared = prepared_balanced

cut : (d : Side) (ms : List Mark) (L : List Segment) → Balanced (count d) L ↔ Balanced (count d) (split ms L)
cut = split-balanced

-- ---- the sums below the edges of a settled, balanced list

-- an edge that is not upright: counted just left of its right end, the sum is the same (Req 13)
right_end : (w : Segment → ℤ) (L : List Segment) → Settled L → Balanced w L → (e : Segment) → In e L → e.a.x.0 <ℤ e.b.x.0 → bottom w L e ≡ bottom-end w L e
right_end = both_ends

-- an upright edge: the sum counted on its left side is its top (Req 13)
left_of_upright : (w : Segment → ℤ) (L : List Segment) → Settled L → Balanced w L → (e : Segment) → In e L → e.a.x.0 ≡ e.b.x.0 → e.a.y.0 <ℤ e.b.y.0 → left_side w L e ≡ top w L e
left_of_upright = left_is_top

-- the sum over what is live at the edge's a is the sum over the whole list: for any list
swept : (w : Segment → ℤ) (L : List Segment) (e : Segment) → bottom w L e ≡ Over w (λ t. below t e) (keep (live e.a) L)
swept = sweep

-- ---- signs: for every function g of the sums on a side, what g gives at the top less what it gives at the bottom is balanced

signs : {I : Type 0} (g : (I → ℤ) → ℤ) (w : I → Segment → ℤ) (L : List Segment) → Settled L → ((i : I) → Balanced (w i) L) → Balanced (sign g w L) L
signs = sign_law

-- of the two counts: under every fill rule and every overlay rule
signs_of_sides : (r : ℤ → ℤ → ℤ) (L : List Segment) → Settled L → ((s : Side) → Balanced (count s) L) → Balanced (sign_of_sides r L) L
signs_of_sides = sides_law

-- ---- rays: the count of a ray from a point with no other edge between it and an edge e
module _ (w : Segment → ℤ) (L : List Segment) (st : Settled L) (bal : Balanced w L) (e : Segment) (i : In e L) (P : Off) where
  -- over e it is the top of e, under e its bottom
  over-edge : Beside L e P → pos 0 <ℤ cross e P → ray w L P ≡ top w L e
  over-edge = ray-over w L st bal e i P

  under-edge : Beside L e P → cross e P <ℤ pos 0 → ray w L P ≡ bottom w L e
  under-edge = ray-under w L st bal e i P

  -- right of an upright e it is the bottom of e, left of it its top
  module _ (upright : e.a.x.0 ≡ e.b.x.0) (up : e.a.y.0 <ℤ e.b.y.0) (level : Level L e P) where
    right_of_edge : (P.d *ℤ e.a.x.0) <ℤ P.X → ray w L P ≡ bottom w L e
    right_of_edge = ray-right w L st bal e i upright up P level

    left_of_edge : P.X <ℤ (P.d *ℤ e.a.x.0) → ray w L P ≡ top w L e
    left_of_edge = ray-left w L st bal e i upright up P level

-- the count is the same at two points, one right of the other, that a straight stretch joins which no edge meets; the list need not be settled
between-points : (w : Segment → ℤ) (L : List Segment) → All (λ t. Before t.a t.b) L → Balanced w L → (P Q : Off) → (Q.d *ℤ P.X) <ℤ (P.d *ℤ Q.X) → All (Misses P Q) L → ray w L P ≡ ray w L Q
between-points = ray_moves
