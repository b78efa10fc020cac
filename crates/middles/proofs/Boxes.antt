-- The middle point lies in both bounding boxes before it is moved to an end ("Crossing"), so it is on the grid: its offsets are quotients cut or to nearest,
-- both less than 1 from their fractions, and the fractions are those of the point where the lines meet.
use Rattle.std.specs.Prelude.{◌≡◌, refl, Bool, true, false, ◌||◌, ◌≢◌, ℤ, pos, ◌-ℤ◌, ◌*ℤ◌}
use Rattle.std.proofs.Common.{inl, inr}
use Rattle.std.specs.Int.Signed.{quot_z}
use Rattle.whole.specs.Order.{zz, sub_is, mag_in, mag_out}
use Rattle.geom.specs.declared.Segment.{Segment}
use Rattle.geom.specs.Plane.{OnGrid, GridPoint, GridSegment, point, upright}
use Rattle.plane.specs.Apart.{o₁, o₂}
use Rattle.plane.specs.Meeting.{Parted}
use Rattle.plane.proofs.PierceLaws.{crossed}
use Rattle.plane.specs.Round.{Rounded}
use Rattle.plane.specs.Quotients.{nearest}
use Rattle.plane.proofs.QuotientsLaws.{rounded-cut, rounded-nearest}
use Rattle.plane.specs.Crossing.{Span, up, down, InBoth}
use Rattle.plane.proofs.CrossingLaws.{crossing_in_boxes}
use Rattle.middles.specs.Point.{level, quotient, cross_point}
use Rattle.middles.specs.Middle.{Middle}

-- ---- the definition's two quotients

pub by_cut : (t : Segment) (n d : ℤ) → (upright t || level t) ≡ true → quotient t n d ≡ quot_z n d
unfolding quotient
by_cut t n d e = rw e

pub by_nearest : (t : Segment) (n d : ℤ) → (upright t || level t) ≡ false → quotient t n d ≡ nearest n d
unfolding quotient
by_nearest t n d e = rw e

quotient-rounded : (t : Segment) (n d : ℤ) → d ≢ pos 0 → Rounded n d (quotient t n d)
quotient-rounded t n d h = go (upright t || level t) refl
  where
    go : (b : Bool) → (upright t || level t) ≡ b → Rounded n d (quotient t n d)
    go true e = rw (by_cut t n d e) (rounded-cut n d h)
    go false e = rw (by_nearest t n d e) (rounded-nearest n d h)

-- ---- the middle point

pub parted-some : {m n : ℤ} → Parted m n → m -ℤ n ≢ pos 0
parted-some {m} {n} (inl h) = omega (zz, sub_is m n)
parted-some {m} {n} (inr h) = omega (zz, sub_is m n)

pub middle_in_boxes : {t o : Segment} → Middle t o → InBoth t o (cross_point t o)
unfolding cross_point
middle_in_boxes {t} {o} m =
    let n = o₁ o t in
    let d = o₁ o t -ℤ o₂ o t in
    let w = t.b.x.0 -ℤ t.a.x.0 in
    let h = t.b.y.0 -ℤ t.a.y.0 in
    crossing_in_boxes t o (point (quotient t (n *ℤ w) d) (quotient t (n *ℤ h) d)) (crossed t o m.other m.target)
    (quotient-rounded t (n *ℤ w) d (parted-some m.target))
    (quotient-rounded t (n *ℤ h) d (parted-some m.target))

span_grid : {p q z : ℤ} → OnGrid p → OnGrid q → Span p q z → OnGrid z
span_grid {p} {q} {z} g h (up k l) = record { near = mag_out z (omega (zz, h.near, mag_in q)) (omega (zz, g.near, mag_in p)) }
span_grid {p} {q} {z} g h (down k l) = record { near = mag_out z (omega (zz, g.near, mag_in p)) (omega (zz, h.near, mag_in q)) }

pub middle_on_grid : {t o : Segment} → GridSegment t → Middle t o → GridPoint (cross_point t o)
middle_on_grid g m =
    let b = (middle_in_boxes m).0 in
    record { x = span_grid g.a.x g.b.x b.in_x; y = span_grid g.a.y g.b.y b.in_y }
