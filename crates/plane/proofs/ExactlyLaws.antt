-- Apart, exactly if every common point is an end of both. Forwards by `apart-ends`; backwards, a pair that is not apart crosses or touches,
-- and then has a common point inside one of the two: the crossing, or the end that touches, over the width of the other (its height, if upright).
use Rattle.std.specs.Prelude.{◌≡◌, [], ◌∷◌, ◌⊎◌, ◌↔◌, ℤ, pos, ◌+ℤ◌, ◌-ℤ◌, ◌*ℤ◌, ◌≤ℤ◌, ◌<ℤ◌}
use Rattle.std.proofs.Common.{inl, inr, ⊎_elim}
use Rattle.whole.specs.Order.{zz, add_is, sub_is}
use Rattle.whole.specs.Ring.{reads}
use Rattle.whole.proofs.RingLaws.{ring}
use Rattle.geom.specs.declared.Point.{Point}
use Rattle.geom.specs.declared.Segment.{Segment}
use Rattle.geom.specs.Plane.{Before, by_x, by_y, turn, against}
use Rattle.geom.specs.Off.{Off, On, EndOf}
use Rattle.plane.specs.Apart.{Apart}
use Rattle.plane.specs.Scaled.{before_at}
use Rattle.plane.proofs.Ends.{apart-ends}
use Rattle.plane.specs.Mean.{Inner, mean_on, inner_no_end}
use Rattle.plane.specs.Meeting.{Meeting, Case, all_zero, clear, end_of_f, end_of_e, through}
use Rattle.plane.proofs.MeetingLaws.{case}
use Rattle.plane.specs.Pierce.{Inside, Touch, a_of_f, b_of_f, a_of_e, b_of_e, Crossed, Different}
use Rattle.plane.proofs.PierceLaws.{touch_sym, touched, crossed, lined_up}
use Rattle.plane.specs.Exactly.{Meets, Sorted, between_y, apart, touch, cross}

pub sorted : (e f : Segment) → Before e.a e.b → Before f.a f.b → Different e f → Sorted e f
sorted e f be bf ne = go (case e f be bf)
  where
    go : {m : Meeting} → Case e f m → Sorted e f
    go (all_zero h1 h2 h3 h4) = ⊎_elim apart touch (lined_up e f be bf ne h1 h2 h3 h4)
    go (clear h) = apart h
    go (end_of_f o t) = touch (touched e f be bf o t)
    go (end_of_e t o) = touch (touch_sym (touched f e bf be o t))
    go (through s t) = cross (crossed e f s t)

meets_sym : {e f : Segment} → Meets e f → Meets f e
meets_sym m = record { P = m.P; on_e = m.on_f; on_f = m.on_e; free = λ t. m.free (t.1, t.0) }

-- p, as k times itself over k
abbrev times : (k : ℤ) → pos 0 <ℤ k → Point → Off
times k h p = record { X = k *ℤ p.x.0; Y = k *ℤ p.y.0; d = k; over = h }

first_on : (f : Segment) (k : ℤ) (h : pos 0 <ℤ k) → On f (times k h f.a)
first_on f k h = mean_on {u = pos 0} {v = k} (record { u_low = omega zz; v_low = omega zz; total = omega (zz, add_is k (pos 0)); mean_x = id f.a.x.0 f.b.x.0; mean_y = id f.a.y.0 f.b.y.0 })
  where
    id : (p q : ℤ) → k *ℤ p ≡ k *ℤ p +ℤ pos 0 *ℤ q
    id p q = ring (k ∷ p ∷ q ∷ []) (search reads depth 20 fits 5000) tt

last_on : (f : Segment) (k : ℤ) (h : pos 0 <ℤ k) → On f (times k h f.b)
last_on f k h = mean_on {u = k} {v = pos 0} (record { u_low = omega zz; v_low = omega zz; total = omega (zz, add_is (pos 0) k); mean_x = id f.a.x.0 f.b.x.0; mean_y = id f.a.y.0 f.b.y.0 })
  where
    id : (p q : ℤ) → k *ℤ q ≡ pos 0 *ℤ p +ℤ k *ℤ q
    id p q = ring (k ∷ p ∷ q ∷ []) (search reads depth 20 fits 5000) tt

-- ---- a point on the line of e and strictly between its ends lies on e
between_x : {o p q : Point} → Before o p → Before p q → (o.x.0 ≤ℤ p.x.0) × (p.x.0 ≤ℤ q.x.0)
between_x (by_x h) (by_x k) = omega zz
between_x (by_x h) (by_y g k) = omega zz
between_x (by_y f h) (by_x k) = omega zz
between_x (by_y f h) (by_y g k) = omega zz

steps_sum : (p q r : ℤ) → q -ℤ p ≡ (q -ℤ r) +ℤ (r -ℤ p)
steps_sum p q r = ring (p ∷ q ∷ r ∷ []) (search reads depth 20 fits 5000) tt

steps_mean : (p q r : ℤ) → (q -ℤ p) *ℤ r ≡ (q -ℤ r) *ℤ p +ℤ (r -ℤ p) *ℤ q
steps_mean p q r = ring (p ∷ q ∷ r ∷ []) (search reads depth 20 fits 5000) tt

turn_y : (o p q : Point) → (p.x.0 -ℤ o.x.0) *ℤ q.y.0 ≡ ((p.x.0 -ℤ q.x.0) *ℤ o.y.0 +ℤ (q.x.0 -ℤ o.x.0) *ℤ p.y.0) +ℤ turn o p q
unfolding turn
turn_y o p q = ring (o.x.0 ∷ o.y.0 ∷ p.x.0 ∷ p.y.0 ∷ q.x.0 ∷ q.y.0 ∷ []) (search reads depth 20 fits 5000) tt

turn_x : (o p q : Point) → (p.y.0 -ℤ o.y.0) *ℤ q.x.0 ≡ ((p.y.0 -ℤ q.y.0) *ℤ o.x.0 +ℤ (q.y.0 -ℤ o.y.0) *ℤ p.x.0) -ℤ turn o p q
unfolding turn
turn_x o p q = ring (o.x.0 ∷ o.y.0 ∷ p.x.0 ∷ p.y.0 ∷ q.x.0 ∷ q.y.0 ∷ []) (search reads depth 20 fits 5000) tt

on_line : (e : Segment) (p : Point) → Before e.a e.b → against e p ≡ pos 0 → Inside e p → (k : ℤ) × (h : pos 0 <ℤ k) × On e (times k h p)
on_line e p (by_x g) t i =
    let b = between_x i.after i.ahead in (
      e.b.x.0 -ℤ e.a.x.0,
      omega (zz, sub_is e.b.x.0 e.a.x.0),
      mean_on {u = p.x.0 -ℤ e.a.x.0} {v = e.b.x.0 -ℤ p.x.0} (record {
        u_low = omega (zz, sub_is p.x.0 e.a.x.0);
        v_low = omega (zz, sub_is e.b.x.0 p.x.0);
        total = steps_sum e.a.x.0 e.b.x.0 p.x.0;
        mean_x = steps_mean e.a.x.0 e.b.x.0 p.x.0;
        mean_y = omega (zz, turn_y e.a e.b p, add_is ((e.b.x.0 -ℤ p.x.0) *ℤ e.a.y.0 +ℤ (p.x.0 -ℤ e.a.x.0) *ℤ e.b.y.0) (against e p));
      }),
    )
on_line e p (by_y z g) t i =
    let b = between_y z i.after i.ahead in (
      e.b.y.0 -ℤ e.a.y.0,
      omega (zz, sub_is e.b.y.0 e.a.y.0),
      mean_on {u = p.y.0 -ℤ e.a.y.0} {v = e.b.y.0 -ℤ p.y.0} (record {
        u_low = omega (zz, sub_is p.y.0 e.a.y.0);
        v_low = omega (zz, sub_is e.b.y.0 p.y.0);
        total = steps_sum e.a.y.0 e.b.y.0 p.y.0;
        mean_x = omega (zz, turn_x e.a e.b p, sub_is ((e.b.y.0 -ℤ p.y.0) *ℤ e.a.x.0 +ℤ (p.y.0 -ℤ e.a.y.0) *ℤ e.b.x.0) (against e p));
        mean_y = steps_mean e.a.y.0 e.b.y.0 p.y.0;
      }),
    )

-- so does an end of f, which makes it a common point inside e
free_at : (e f : Segment) (p : Point) → ((k : ℤ) (h : pos 0 <ℤ k) → On f (times k h p)) → Before e.a e.b → against e p ≡ pos 0 → Inside e p → Meets e f
free_at e f p on_f be z i =
    let o = on_line e p be z i in
    let n : Inner e (times o.0 o.1 p) = record { left = before_at o.0 o.1 i.after; right = before_at o.0 o.1 i.ahead } in
    record { P = times o.0 o.1 p; on_e = o.2; on_f = on_f o.0 o.1; free = λ t. inner_no_end n t.0 }

module _ (e f : Segment) (be : Before e.a e.b) (bf : Before f.a f.b) where
  pub touch_meets : Touch e f → Meets e f
  touch_meets (a_of_f z i) = free_at e f f.a (first_on f) be z i
  touch_meets (b_of_f z i) = free_at e f f.b (last_on f) be z i
  touch_meets (a_of_e z i) = meets_sym (free_at f e e.a (first_on e) bf z i)
  touch_meets (b_of_e z i) = meets_sym (free_at f e e.b (last_on e) bf z i)

  pub cross_meets : Crossed e f → Meets e f
  cross_meets c = record { P = c.P; on_e = c.on_e; on_f = c.on_f; free = λ t. inner_no_end (c.inside_e be) t.0 }

  -- apart, or a common point that is not an end of both
  pub apart_or_meets : Different e f → Apart e f ⊎ Meets e f
  apart_or_meets ne = go (sorted e f be bf ne)
    where
      go : Sorted e f → Apart e f ⊎ Meets e f
      go (apart h) = inl h
      go (touch h) = inr (touch_meets h)
      go (cross h) = inr (cross_meets h)

  pub not_both : Apart e f → ¬ Meets e f
  not_both h m = m.free (apart-ends be bf h m.on_e m.on_f)

  -- THE THEOREM
  pub apart_exactly : Different e f → Apart e f ↔ ((P : Off) → On e P → On f P → EndOf e P × EndOf f P)
  apart_exactly ne = (λ h P. apart-ends be bf h, λ h. ⊎_elim (λ a. a) (λ m. absurd (m.free (h m.P m.on_e m.on_f))) (apart_or_meets ne))
