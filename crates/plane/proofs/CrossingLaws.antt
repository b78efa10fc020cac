-- The middle point. Every point common to the two lines has the offsets o₁ f e · (e.b - e.a) / (o₁ f e - o₂ f e) from e.a: that is the fraction of document 01's
-- "Middle point", with e the target. So the offsets rounded by less than 1 give a point in both boxes, whichever way the segments run: nothing strict is needed.
use Rattle.std.specs.Prelude.{◌≡◌, [], ◌∷◌, ℤ, pos, ◌+ℤ◌, ◌-ℤ◌, ◌*ℤ◌, ◌≤ℤ◌, ◌<ℤ◌}
use Rattle.std.proofs.Common.{◌∙◌, ap, ap₂}
use Rattle.whole.specs.Order.{zz, add_is, sub_is}
use Rattle.whole.specs.Ring.{reads}
use Rattle.whole.proofs.RingLaws.{ring}
use Rattle.geom.specs.declared.Point.{Point}
use Rattle.geom.specs.declared.Segment.{Segment}
use Rattle.geom.specs.Plane.{point, turn}
use Rattle.geom.specs.Off.{Off, cross, Within, rising, falling, On}
use Rattle.plane.specs.Apart.{o₁, o₂}
use Rattle.plane.specs.Turns.{coords}
use Rattle.plane.specs.Pierce.{Crossed}
use Rattle.plane.specs.Round.{Near, Rounded}
use Rattle.plane.proofs.RoundLaws.{near-between, rounded-near}
use Rattle.plane.specs.Crossing.{InBoth, InBox, Span, up, down}

take-off : (d p o : ℤ) → d *ℤ (p -ℤ o) ≡ d *ℤ p -ℤ d *ℤ o
take-off d p o = ring (d ∷ p ∷ o ∷ []) (search reads depth 20 fits 5000) tt

-- t between d p and d q, its offset from d o rounded
offset_between : (d p q t o r : ℤ) → pos 0 <ℤ d → Near (t -ℤ d *ℤ o) d r → (d *ℤ p) ≤ℤ t → t ≤ℤ (d *ℤ q) → (p ≤ℤ (o +ℤ r)) × ((o +ℤ r) ≤ℤ q)
offset_between d p q t o r h n k l =
    let b = near-between (p -ℤ o) (q -ℤ o) h n (omega (zz, take-off d p o, sub_is (d *ℤ p) (d *ℤ o), sub_is t (d *ℤ o))) (omega (zz, take-off d q o, sub_is (d *ℤ q) (d *ℤ o), sub_is t (d *ℤ o))) in
    omega (zz, add_is o r, sub_is p o, sub_is q o)

pub within_span : {d p q t : ℤ} (o r : ℤ) → pos 0 <ℤ d → Near (t -ℤ d *ℤ o) d r → Within d p q t → Span p q (o +ℤ r)
within_span {d} {p} {q} {t} o r h n (rising k l) = let b = offset_between d p q t o r h n k l in up b.0 b.1
within_span {d} {p} {q} {t} o r h n (falling k l) = let b = offset_between d q p t o r h n k l in down b.0 b.1

-- a point of a segment, its offsets from o rounded, lies in the segment's box
pub rounded_in_box : {e : Segment} {P : Off} (o r : Point) → On e P → Near (P.X -ℤ P.d *ℤ o.x.0) P.d r.x.0 → Near (P.Y -ℤ P.d *ℤ o.y.0) P.d r.y.0 → InBox e (point (o.x.0 +ℤ r.x.0) (o.y.0 +ℤ r.y.0))
rounded_in_box {e} {P} o r on h k = record { in_x = within_span o.x.0 r.x.0 P.over h on.wide; in_y = within_span o.y.0 r.y.0 P.over k on.high }

-- ---- the fraction
line_x : (e f : Segment) (P : Off) → (o₁ f e -ℤ o₂ f e) *ℤ (P.X -ℤ P.d *ℤ e.a.x.0) ≡ P.d *ℤ (o₁ f e *ℤ (e.b.x.0 -ℤ e.a.x.0)) +ℤ ((f.b.x.0 -ℤ f.a.x.0) *ℤ cross e P -ℤ (e.b.x.0 -ℤ e.a.x.0) *ℤ cross f P)
unfolding turn cross
line_x e f P = ring (e.a.x.0 ∷ e.a.y.0 ∷ e.b.x.0 ∷ e.b.y.0 ∷ f.a.x.0 ∷ f.a.y.0 ∷ f.b.x.0 ∷ f.b.y.0 ∷ P.X ∷ P.Y ∷ P.d ∷ []) (search reads depth 30 fits 50000) tt

line_y : (e f : Segment) (P : Off) → (o₁ f e -ℤ o₂ f e) *ℤ (P.Y -ℤ P.d *ℤ e.a.y.0) ≡ P.d *ℤ (o₁ f e *ℤ (e.b.y.0 -ℤ e.a.y.0)) +ℤ ((f.b.y.0 -ℤ f.a.y.0) *ℤ cross e P -ℤ (e.b.y.0 -ℤ e.a.y.0) *ℤ cross f P)
unfolding turn cross
line_y e f P = ring (e.a.x.0 ∷ e.a.y.0 ∷ e.b.x.0 ∷ e.b.y.0 ∷ f.a.x.0 ∷ f.a.y.0 ∷ f.b.x.0 ∷ f.b.y.0 ∷ P.X ∷ P.Y ∷ P.d ∷ []) (search reads depth 30 fits 50000) tt

drop : (m p q r s : ℤ) → r ≡ pos 0 → s ≡ pos 0 → m +ℤ (p *ℤ r -ℤ q *ℤ s) ≡ m
drop m p q r s h k = ap₂ (λ x y. m +ℤ (p *ℤ x -ℤ q *ℤ y)) h k ∙ id
  where
    id : m +ℤ (p *ℤ pos 0 -ℤ q *ℤ pos 0) ≡ m
    id = ring (m ∷ p ∷ q ∷ []) (search reads depth 20 fits 5000) tt

pub offset_x : (P : Off) (e f : Segment) → cross e P ≡ pos 0 → cross f P ≡ pos 0 → (o₁ f e -ℤ o₂ f e) *ℤ (P.X -ℤ P.d *ℤ e.a.x.0) ≡ P.d *ℤ (o₁ f e *ℤ (e.b.x.0 -ℤ e.a.x.0))
offset_x P e f h k = line_x e f P ∙ drop (P.d *ℤ (o₁ f e *ℤ (e.b.x.0 -ℤ e.a.x.0))) (f.b.x.0 -ℤ f.a.x.0) (e.b.x.0 -ℤ e.a.x.0) (cross e P) (cross f P) h k

pub offset_y : (P : Off) (e f : Segment) → cross e P ≡ pos 0 → cross f P ≡ pos 0 → (o₁ f e -ℤ o₂ f e) *ℤ (P.Y -ℤ P.d *ℤ e.a.y.0) ≡ P.d *ℤ (o₁ f e *ℤ (e.b.y.0 -ℤ e.a.y.0))
offset_y P e f h k = line_y e f P ∙ drop (P.d *ℤ (o₁ f e *ℤ (e.b.y.0 -ℤ e.a.y.0))) (f.b.y.0 -ℤ f.a.y.0) (e.b.y.0 -ℤ e.a.y.0) (cross e P) (cross f P) h k

-- ---- the rounded crossing lies in both boxes
pub crossing_in_boxes : (e f : Segment) (r : Point) → Crossed e f
    → Rounded (o₁ f e *ℤ (e.b.x.0 -ℤ e.a.x.0)) (o₁ f e -ℤ o₂ f e) r.x.0
    → Rounded (o₁ f e *ℤ (e.b.y.0 -ℤ e.a.y.0)) (o₁ f e -ℤ o₂ f e) r.y.0
    → InBoth e f (point (e.a.x.0 +ℤ r.x.0) (e.a.y.0 +ℤ r.y.0))
crossing_in_boxes e f r C h k =
    let nx = rounded-near C.P.over (offset_x C.P e f C.on_e.line C.on_f.line) h in
    let ny = rounded-near C.P.over (offset_y C.P e f C.on_e.line C.on_f.line) k in
    (rounded_in_box e.a r C.on_e nx ny, rounded_in_box e.a r C.on_f nx ny)

-- ---- on an upright or level target the fraction is the same one, reduced by its height or width
div_is : (e f : Segment) → (e.b.y.0 -ℤ e.a.y.0) *ℤ (f.a.x.0 -ℤ f.b.x.0) -ℤ (e.b.x.0 -ℤ e.a.x.0) *ℤ (f.a.y.0 -ℤ f.b.y.0) ≡ o₁ f e -ℤ o₂ f e
unfolding turn
div_is e f = ring (coords e f) (search reads depth 20 fits 5000) tt

pub upright-div : (e f : Segment) → e.a.x.0 ≡ e.b.x.0 → (e.b.y.0 -ℤ e.a.y.0) *ℤ (f.a.x.0 -ℤ f.b.x.0) ≡ o₁ f e -ℤ o₂ f e
upright-div e f u = id (e.b.y.0 -ℤ e.a.y.0) (f.a.x.0 -ℤ f.b.x.0) e.a.x.0 (f.a.y.0 -ℤ f.b.y.0) ∙ ap (λ t. (e.b.y.0 -ℤ e.a.y.0) *ℤ (f.a.x.0 -ℤ f.b.x.0) -ℤ (t -ℤ e.a.x.0) *ℤ (f.a.y.0 -ℤ f.b.y.0)) u ∙ div_is e f
  where
    id : (w k p z : ℤ) → w *ℤ k ≡ w *ℤ k -ℤ (p -ℤ p) *ℤ z
    id w k p z = ring (w ∷ k ∷ p ∷ z ∷ []) (search reads depth 20 fits 5000) tt

pub level-div : (e f : Segment) → e.a.y.0 ≡ e.b.y.0 → (e.b.x.0 -ℤ e.a.x.0) *ℤ (f.b.y.0 -ℤ f.a.y.0) ≡ o₁ f e -ℤ o₂ f e
level-div e f u = id (e.b.x.0 -ℤ e.a.x.0) f.a.y.0 f.b.y.0 e.a.y.0 (f.a.x.0 -ℤ f.b.x.0) ∙ ap (λ t. (t -ℤ e.a.y.0) *ℤ (f.a.x.0 -ℤ f.b.x.0) -ℤ (e.b.x.0 -ℤ e.a.x.0) *ℤ (f.a.y.0 -ℤ f.b.y.0)) u ∙ div_is e f
  where
    id : (w p q r z : ℤ) → w *ℤ (q -ℤ p) ≡ (r -ℤ r) *ℤ z -ℤ w *ℤ (p -ℤ q)
    id w p q r z = ring (w ∷ p ∷ q ∷ r ∷ z ∷ []) (search reads depth 20 fits 5000) tt
