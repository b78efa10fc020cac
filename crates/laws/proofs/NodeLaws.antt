-- At an end p of an edge e nothing passes through: an edge t apart from e that has p on it has p for an end. For p
-- strictly within t is a mean of t's ends with two positive weights, so the turns of t's ends against e have a weighted sum
-- that is 0 (`cut_a`, `cut_b`; for an upright t the same in y): no strict side, and not exactly one zero.
-- So what lies below e at p is what passes strictly under p, and of the edges that share the end p those below e by slope.
use Rattle.std.specs.Prelude.{◌≡◌, [], ◌∷◌, Bool, ◌&&◌, ◌⊎◌, ℤ, neg_ℤ, ◌+ℤ◌, ◌-ℤ◌, ◌*ℤ◌, ◌≤ℤ◌, ◌<ℤ◌}
use Rattle.std.proofs.Math.Path.{refl, sym, ap}
use Rattle.std.proofs.Common.{◌∙◌, subst, inl, inr}
use Rattle.std.proofs.Math.Bool.{true, false}
use Rattle.std.proofs.Math.IntN.{pos, *ℤ-zero, zero-*ℤ}
use Rattle.std.specs.Int.Signed.{le_z, lt_z}
use Rattle.whole.specs.Order.{zz, add_is, sub_is}
use Rattle.whole.specs.Ring.{reads}
use Rattle.whole.proofs.RingLaws.{ring}
use Rattle.whole.specs.Sign.{Tri, less, same, more}
use Rattle.whole.proofs.SignLaws.{tri, mul_pos, mul_pos_neg, mul_nonneg, mul-neg-neg, mul_nonpos_nonpos, zero_product}
use Rattle.whole.specs.Sum.{ind}
use Rattle.whole.specs.Test.{lt-false, tests}
use Rattle.whole.proofs.TestLaws.{and_l, and_r, and_same, lt_of, le_of}
use Rattle.geom.specs.declared.Point.{Point}
use Rattle.geom.specs.declared.Segment.{Segment}
use Rattle.geom.specs.Plane.{turn, against, same_point, Before, by_x, by_y}
use Rattle.plane.specs.Order.{point-eq, before_irr, before-trans}
use Rattle.plane.proofs.TurnsLaws.{turn_self, turn_end, turn_cyclic}
use Rattle.plane.specs.Apart.{UpTo, OneSide, OneZero, Apart, in_line_lem, off_e, off_f, at_ends, apart_sym, o₁, o₂}
use Rattle.edges.specs.Below.{alive, lean, lower}
use Rattle.laws.specs.Sides.{reaches, below_end}
use Rattle.laws.specs.Points.{point_of, point-yes, point_no, never_upto, then_upto, runs}
use Rattle.laws.specs.Place.{cut_a, cut_b, lean_is, lean-neg, left_A, up_B}
use Rattle.laws.specs.Settled.{Meets, place_of}
use Rattle.laws.specs.Below.{lower_at, lean_up, lower-level, lower_up, lower-dn}
use Rattle.laws.specs.Column.{under-right, under_left, upto}
use Rattle.laws.proofs.ColumnLaws.{at_a, turn_at_a, turn_at_b}
use Rattle.laws.specs.Foot.{u, v}
use Rattle.laws.specs.Node.{end_lt, ends, start-lt, starts}

-- ---- two positive weights
no_side : (u v : ℤ) {A B : ℤ} → pos 0 <ℤ u → pos 0 <ℤ v → u *ℤ A +ℤ v *ℤ B ≡ pos 0 → OneSide A B → ⊥
no_side u v {A} {B} hu hv e (inl s) = omega (zz, add_is (u *ℤ A) (v *ℤ B), mul_pos hu s.0, mul_pos hv s.1)
no_side u v {A} {B} hu hv e (inr s) = omega (zz, add_is (u *ℤ A) (v *ℤ B), mul_pos_neg hu s.0, mul_pos_neg hv s.1)

pub no_factor : (u : ℤ) {A : ℤ} → pos 0 <ℤ u → u *ℤ A ≡ pos 0 → A ≡ pos 0
no_factor u {A} hu e = go (zero_product u A e)
  where
    go : (u ≡ pos 0) ⊎ (A ≡ pos 0) → A ≡ pos 0
    go (inl z) = let f : ⊥ = omega zz in absurd f
    go (inr z) = z

no_zero : (u v : ℤ) {A B : ℤ} → pos 0 <ℤ u → pos 0 <ℤ v → u *ℤ A +ℤ v *ℤ B ≡ pos 0 → OneZero A B → ⊥
no_zero u v {A} {B} hu hv e (inl s) = s.1 (no_factor v hv (omega (zz, add_is (u *ℤ A) (v *ℤ B), ap (λ r. u *ℤ r) s.0 ∙ *ℤ-zero u)))
no_zero u v {A} {B} hu hv e (inr s) = s.0 (no_factor u hu (omega (zz, add_is (u *ℤ A) (v *ℤ B), ap (λ r. v *ℤ r) s.1 ∙ *ℤ-zero v)))

pub zero_side : {A B : ℤ} → (A ≡ pos 0) ⊎ (B ≡ pos 0) → OneSide A B → ⊥
zero_side (inl z) (inl s) = let k = s.0 in omega zz
zero_side (inl z) (inr s) = let k = s.0 in omega zz
zero_side (inr z) (inl s) = let k = s.1 in omega zz
zero_side (inr z) (inr s) = let k = s.1 in omega zz

-- an end of e on the line of t, a mean of t's ends
clash : {t e : Segment} → Apart t e → (o₁ t e ≡ pos 0) ⊎ (o₂ t e ≡ pos 0) → ((UpTo t.b e.a) ⊎ (UpTo e.b t.a) → ⊥) → (u v : ℤ) → pos 0 <ℤ u → pos 0 <ℤ v → u *ℤ o₁ e t +ℤ v *ℤ o₂ e t ≡ pos 0 → ⊥
clash (in_line_lem p q r s l) z f u v hu hv e = f l
clash (off_e s) z f u v hu hv e = zero_side z s
clash (off_f s) z f u v hu hv e = no_side u v hu hv e s
clash (at_ends s r) z f u v hu hv e = no_zero u v hu hv e r

-- e.a, e.b strictly within t
outside_a : (t e : Segment) → Before e.a e.b → Before t.a e.a → Before e.a t.b → (UpTo t.b e.a) ⊎ (UpTo e.b t.a) → ⊥
outside_a t e f h k (inl l) = never_upto k l
outside_a t e f h k (inr l) = before_irr (before-trans (then_upto f l) h)

outside_b : (t e : Segment) → Before e.a e.b → Before t.a e.b → Before e.b t.b → (UpTo t.b e.a) ⊎ (UpTo e.b t.a) → ⊥
outside_b t e f h k (inl l) = before_irr (before-trans (then_upto k l) f)
outside_b t e f h k (inr l) = never_upto h l

neg-zero : (k : ℤ) {c : ℤ} → c ≡ pos 0 → neg_ℤ (k *ℤ c) ≡ pos 0
neg-zero k {c} e = ap (λ s. neg_ℤ (k *ℤ s)) e ∙ ap neg_ℤ (*ℤ-zero k)

over_x : {p q : ℤ} → p <ℤ q → pos 0 <ℤ (q -ℤ p)
over_x {p} {q} h = omega (zz, sub_is q p)

pub not_within_a : {t e : Segment} → Apart t e → Before e.a e.b → t.a.x.0 <ℤ e.a.x.0 → e.a.x.0 <ℤ t.b.x.0 → o₁ t e ≡ pos 0 → ⊥
not_within_a {t} {e} ap' f h k z = clash ap' (inl z) (outside_a t e f (by_x h) (by_x k)) (t.b.x.0 -ℤ e.a.x.0) (e.a.x.0 -ℤ t.a.x.0) (over_x k) (over_x h) (cut_a e t ∙ neg-zero (e.b.x.0 -ℤ e.a.x.0) z)

pub not_within_b : {t e : Segment} → Apart t e → Before e.a e.b → t.a.x.0 <ℤ e.b.x.0 → e.b.x.0 <ℤ t.b.x.0 → o₂ t e ≡ pos 0 → ⊥
not_within_b {t} {e} ap' f h k z = clash ap' (inr z) (outside_b t e f (by_x h) (by_x k)) (t.b.x.0 -ℤ e.b.x.0) (e.b.x.0 -ℤ t.a.x.0) (over_x k) (over_x h) (cut_b e t ∙ neg-zero (e.b.x.0 -ℤ e.a.x.0) z)

-- the same on an upright t
cut_y : (e t : Segment) → (t.b.y.0 -ℤ e.b.y.0) *ℤ o₁ e t +ℤ (e.b.y.0 -ℤ t.a.y.0) *ℤ o₂ e t ≡ neg_ℤ ((e.b.y.0 -ℤ e.a.y.0) *ℤ o₂ t e)
unfolding turn
cut_y e t = ring (e.a.x.0 ∷ e.a.y.0 ∷ e.b.x.0 ∷ e.b.y.0 ∷ t.a.x.0 ∷ t.a.y.0 ∷ t.b.x.0 ∷ t.b.y.0 ∷ []) (search reads depth 20 fits 5000) tt

pub upright-zero : (p q r : Point) → p.x.0 ≡ q.x.0 → p.x.0 ≡ r.x.0 → turn p q r ≡ pos 0
upright-zero p q r e f = turn_at_a p q r f ∙ ap (λ s. s *ℤ (r.y.0 -ℤ p.y.0)) z ∙ zero-*ℤ (r.y.0 -ℤ p.y.0)
  where
    z : q.x.0 -ℤ p.x.0 ≡ pos 0
    z = omega (zz, sub_is q.x.0 p.x.0)

pub not_within_up : {t e : Segment} → Apart t e → Before e.a e.b → t.a.x.0 ≡ e.b.x.0 → t.b.x.0 ≡ e.b.x.0 → t.a.y.0 <ℤ e.b.y.0 → e.b.y.0 <ℤ t.b.y.0 → ⊥
not_within_up {t} {e} ap' f l m h k =
    let z = upright-zero t.a t.b e.b (l ∙ sym m) l in
    clash ap' (inr z) (outside_b t e f (by_y l h) (by_y (sym m) k)) (t.b.y.0 -ℤ e.b.y.0) (e.b.y.0 -ℤ t.a.y.0) (over_x k) (over_x h) (cut_y e t ∙ neg-zero (e.b.y.0 -ℤ e.a.y.0) z)

-- ---- an edge with the end of e on it has it for an end
level_y : (k : ℤ) {u v : ℤ} → pos 0 <ℤ k → k *ℤ (v -ℤ u) ≡ pos 0 → v ≡ u
level_y k {u} {v} h e = omega (zz, no_factor k h e, sub_is v u)

root_a : {e t : Segment} → Meets e t → Before e.a e.b → t.a.x.0 ≤ℤ e.a.x.0 → e.a.x.0 <ℤ t.b.x.0 → o₁ t e ≡ pos 0 → e.a ≡ t.a
root_a (inl q) f h k z = ap (λ (s : Segment). s.a) q
root_a {e} {t} (inr m) f h k z = go (tri t.a.x.0 e.a.x.0)
  where
    go : Tri t.a.x.0 e.a.x.0 → e.a ≡ t.a
    go (less l) = absurd (not_within_a (apart_sym m) f l k z)
    go (same l) = point-eq (sym l) (level_y (t.b.x.0 -ℤ t.a.x.0) (omega (zz, sub_is t.b.x.0 t.a.x.0)) (sym (turn_at_a t.a t.b e.a l) ∙ z))
    go (more l) = let c : ⊥ = omega zz in absurd c

root_b : {e t : Segment} → Meets e t → Before e.a e.b → t.a.x.0 <ℤ e.b.x.0 → e.b.x.0 ≤ℤ t.b.x.0 → o₂ t e ≡ pos 0 → e.b ≡ t.b
root_b (inl q) f h k z = ap (λ (s : Segment). s.b) q
root_b {e} {t} (inr m) f h k z = go (tri t.b.x.0 e.b.x.0)
  where
    go : Tri t.b.x.0 e.b.x.0 → e.b ≡ t.b
    go (less l) = let c : ⊥ = omega zz in absurd c
    go (same l) = point-eq (sym l) (level_y (t.b.x.0 -ℤ t.a.x.0) (omega (zz, sub_is t.b.x.0 t.a.x.0)) (sym (turn_at_b t.a t.b e.b l) ∙ z))
    go (more l) = absurd (not_within_b (apart_sym m) f h l z)

-- ---- straight up is the last of what starts at a point
pub up_last : (o q r : Point) → o.x.0 ≡ q.x.0 → Before o q → Before o r → turn o q r ≤ℤ pos 0
up_last o q r e (by_x h) k = let c : ⊥ = omega zz in absurd c
up_last o q r e (by_y f h) k =
    let n : pos 0 ≤ℤ ((q.y.0 -ℤ o.y.0) *ℤ (r.x.0 -ℤ o.x.0)) = mul_nonneg {a = q.y.0 -ℤ o.y.0} {b = r.x.0 -ℤ o.x.0} (omega (zz, sub_is q.y.0 o.y.0)) (omega (zz, runs k, sub_is r.x.0 o.x.0)) in
    let z : q.x.0 -ℤ o.x.0 ≡ pos 0 = omega (zz, sub_is q.x.0 o.x.0) in
    let y : (q.x.0 -ℤ o.x.0) *ℤ (r.y.0 -ℤ o.y.0) ≡ pos 0 = ap (λ s. s *ℤ (r.y.0 -ℤ o.y.0)) z ∙ zero-*ℤ (r.y.0 -ℤ o.y.0) in
    omega (zz, at_a o q r, add_is (turn o q r) ((q.y.0 -ℤ o.y.0) *ℤ (r.x.0 -ℤ o.x.0)))

pub not_last : {o q r : Point} → Before o q → Before o r → pos 0 <ℤ turn o q r → o.x.0 <ℤ q.x.0
not_last (by_x h) k l = h
not_last {o} {q} {r} (by_y e h) k l = let n = up_last o q r e (by_y e h) k in let c : ⊥ = omega zz in absurd c

StartEach : Segment → Segment → Type 0
StartEach e t = ind (lower_at t e) ≡ ind (under-right e.a t) +ℤ ind (starts e.a t && start-lt e.a t e)

-- from one end both are seen as they lean
lean-start : (e t : Segment) → e.a ≡ t.a → lean t e ≡ turn e.a t.b e.b
lean-start e t q = omega (zz, lean_is t e, sub_is (o₂ t e) (o₁ t e), ap (λ p. against t p) q ∙ turn_self t.a t.b, ap (λ p. turn p t.b e.b) q)

module _ {e t : Segment} (m : Meets e t) (fe : Before e.a e.b) (ft : Before t.a t.b) where
  off-start : (o₁ t e ≡ pos 0 → ⊥) → same_point e.a t.a ≡ false
  off-start f = point_no e.a t.a (λ q. f (ap (λ p. against t p) q ∙ turn_self t.a t.b))

  start-alive : t.a.x.0 ≤ℤ e.a.x.0 → e.a.x.0 <ℤ t.b.x.0 → Tri (o₁ t e) (pos 0) → StartEach e t
  unfolding StartEach lower_at under-right starts start-lt alive
  start-alive h k (less z) = simp (tests, lower-dn (lean t e) z, off-start (λ q. omega zz))
  start-alive h k (same z) = let q = root_a m fe h k z in simp (tests, lower-level (lean t e) z ∙ ap (λ s. lt_z (pos 0) s) (lean-start e t q), point-yes q)
  start-alive h k (more z) = simp (tests, lower_up (lean t e) z, off-start (λ q. omega zz))

  -- an upright edge is the last that starts at its point
  start_up : t.a.x.0 ≡ e.a.x.0 → t.b.x.0 ≡ e.a.x.0 → StartEach e t
  unfolding StartEach lower_at under-right starts start-lt alive
  start_up h k = simp tests (go (same_point e.a t.a) refl)
    where
      go : (c : Bool) → same_point e.a t.a ≡ c → pos 0 ≡ ind (c && lt_z (pos 0) (turn e.a t.b e.b))
      go true q = ap ind (sym (lt-false (up_last e.a t.b e.b (sym k) (subst (λ p. Before p t.b) (sym (point_of q)) ft) fe)))
      go false q = refl

  start-off : (e.a.x.0 ≡ t.a.x.0 → ⊥) → same_point e.a t.a ≡ false
  start-off f = point_no e.a t.a (λ q. f (ap (λ (r : Point). r.x.0) q))

  start_at : Tri t.a.x.0 e.a.x.0 → Tri t.b.x.0 e.a.x.0 → StartEach e t
  unfolding StartEach lower_at under-right starts alive
  start_at (less h) (less k) = simp (tests, start-off (λ q. omega zz))
  start_at (less h) (same k) = simp (tests, start-off (λ q. omega zz))
  start_at (less h) (more k) = start-alive (omega zz) k (tri (o₁ t e) (pos 0))
  start_at (same h) (less k) = let n = runs ft in let c : ⊥ = omega zz in absurd c
  start_at (same h) (same k) = start_up h k
  start_at (same h) (more k) = start-alive (omega zz) k (tri (o₁ t e) (pos 0))
  start_at (more h) k = simp (tests, start-off (λ q. omega zz))

  pub start-each : ind (lower_at t e) ≡ ind (under-right e.a t) +ℤ ind (starts e.a t && start-lt e.a t e)
  unfolding StartEach
  start-each = start_at (tri t.a.x.0 e.a.x.0) (tri t.b.x.0 e.a.x.0)

lean-end : (e t : Segment) → e.b ≡ t.b → lean e t ≡ turn e.b e.a t.a
lean-end e t q = omega (zz, lean-neg t e, sub_is (o₁ t e) (o₂ t e), ap (λ p. against t p) q ∙ turn_end t.a t.b, ap (λ p. turn t.a p e.a) q, turn_cyclic t.a e.b e.a)

EndEach : Segment → Segment → Type 0
EndEach e t = ind (below_end t e) +ℤ ind (upto e.b t) ≡ ind (under_left e.b t) +ℤ ind (ends e.b t && end_lt e.b t e)

module _ {e t : Segment} (m : Meets e t) (fe : Before e.a e.b) (run : e.a.x.0 <ℤ e.b.x.0) where
  off-end : (o₂ t e ≡ pos 0 → ⊥) → same_point e.b t.b ≡ false
  off-end f = point_no e.b t.b (λ q. f (ap (λ p. against t p) q ∙ turn_end t.a t.b))

  end-off_x : (e.b.x.0 ≡ t.b.x.0 → ⊥) → same_point e.b t.b ≡ false
  end-off_x f = point_no e.b t.b (λ q. f (ap (λ (r : Point). r.x.0) q))

  end-off_y : (e.b.y.0 ≡ t.b.y.0 → ⊥) → same_point e.b t.b ≡ false
  end-off_y f = point_no e.b t.b (λ q. f (ap (λ (r : Point). r.y.0) q))

  end-reach : t.a.x.0 <ℤ e.b.x.0 → e.b.x.0 ≤ℤ t.b.x.0 → Tri (o₂ t e) (pos 0) → EndEach e t
  unfolding EndEach below_end under_left ends end_lt reaches upto
  end-reach h k (less z) = simp (tests, lower-dn (lean e t) z, off-end (λ q. omega zz))
  end-reach h k (same z) = let q = root_b m fe h k z in simp (tests, lower-level (lean e t) z ∙ ap (λ s. lt_z (pos 0) s) (lean-end e t q), point-yes q)
  end-reach h k (more z) = simp (tests, lower_up (lean e t) z, off-end (λ q. omega zz))

  end_run : t.a.x.0 <ℤ t.b.x.0 → Tri t.a.x.0 e.b.x.0 → Tri t.b.x.0 e.b.x.0 → EndEach e t
  unfolding EndEach below_end under_left ends reaches upto
  end_run r (less h) (less k) = simp (tests, end-off_x (λ q. omega zz))
  end_run r (less h) (same k) = end-reach h (omega zz) (tri (o₂ t e) (pos 0))
  end_run r (less h) (more k) = end-reach h (omega zz) (tri (o₂ t e) (pos 0))
  end_run r (same h) (less k) = let c : ⊥ = omega zz in absurd c
  end_run r (same h) (same k) = let c : ⊥ = omega zz in absurd c
  end_run r (same h) (more k) = simp (tests, end-off_x (λ q. omega zz))
  end_run r (more h) (less k) = let c : ⊥ = omega zz in absurd c
  end_run r (more h) (same k) = let c : ⊥ = omega zz in absurd c
  end_run r (more h) (more k) = simp (tests, end-off_x (λ q. omega zz))

  -- an upright t does not pass e.b
  no_pass : t.a.x.0 ≡ e.b.x.0 → t.b.x.0 ≡ e.b.x.0 → t.a.y.0 <ℤ e.b.y.0 → e.b.y.0 <ℤ t.b.y.0 → ⊥
  no_pass h k i j = go m
    where
      go : Meets e t → ⊥
      go (inl q) = omega (zz, ap (λ (s : Segment). s.a.x.0) q)
      go (inr n) = not_within_up (apart_sym n) fe h k i j

  up_is_first : t.a.x.0 ≡ e.b.x.0 → t.a.y.0 <ℤ e.b.y.0 → pos 0 <ℤ turn e.b e.a t.a
  up_is_first h i = let n = mul-neg-neg {a = e.a.x.0 -ℤ e.b.x.0} {b = t.a.y.0 -ℤ e.b.y.0} (omega (zz, sub_is e.a.x.0 e.b.x.0)) (omega (zz, sub_is t.a.y.0 e.b.y.0)) in omega (zz, turn_at_a e.b e.a t.a (sym h))

  end_stand : t.a.y.0 <ℤ t.b.y.0 → t.a.x.0 ≡ e.b.x.0 → t.b.x.0 ≡ e.b.x.0 → Tri t.a.y.0 e.b.y.0 → Tri t.b.y.0 e.b.y.0 → EndEach e t
  unfolding EndEach below_end under_left ends end_lt reaches upto
  end_stand s h k (less i) (less j) = simp (tests, end-off_y (λ q. omega zz))
  end_stand s h k (less i) (same j) = let f = up_is_first h i in simp (tests, point-yes (point-eq (sym k) (sym j)))
  end_stand s h k (less i) (more j) = absurd (no_pass h k i j)
  end_stand s h k (same i) (less j) = let c : ⊥ = omega zz in absurd c
  end_stand s h k (same i) (same j) = let c : ⊥ = omega zz in absurd c
  end_stand s h k (same i) (more j) = simp (tests, end-off_y (λ q. omega zz))
  end_stand s h k (more i) (less j) = let c : ⊥ = omega zz in absurd c
  end_stand s h k (more i) (same j) = let c : ⊥ = omega zz in absurd c
  end_stand s h k (more i) (more j) = simp (tests, end-off_y (λ q. omega zz))

  end-column : t.a.x.0 ≡ t.b.x.0 → t.a.y.0 <ℤ t.b.y.0 → Tri t.a.x.0 e.b.x.0 → EndEach e t
  unfolding EndEach below_end under_left ends end_lt reaches upto
  end-column u s (less h) = let k : t.b.x.0 <ℤ e.b.x.0 = omega zz in simp (tests, end-off_x (λ q. omega zz))
  end-column u s (same h) = end_stand s h (sym u ∙ h) (tri t.a.y.0 e.b.y.0) (tri t.b.y.0 e.b.y.0)
  end-column u s (more h) = let k : e.b.x.0 <ℤ t.b.x.0 = omega zz in simp (tests, end-off_x (λ q. omega zz))

  end_at : Before t.a t.b → EndEach e t
  end_at (by_x h) = end_run h (tri t.a.x.0 e.b.x.0) (tri t.b.x.0 e.b.x.0)
  end_at (by_y u h) = end-column u h (tri t.a.x.0 e.b.x.0)

  pub end-each : Before t.a t.b → ind (below_end t e) +ℤ ind (upto e.b t) ≡ ind (under_left e.b t) +ℤ ind (ends e.b t && end_lt e.b t e)
  unfolding EndEach
  end-each f = end_at f

-- ---- an upright e
-- straight up from below is the first of what ends at a point
pub up_first : (o q r : Point) → o.x.0 ≡ q.x.0 → Before q o → Before r o → turn o q r ≤ℤ pos 0
up_first o q r e (by_x h) k = let c : ⊥ = omega zz in absurd c
up_first o q r e (by_y f h) k =
    let n : pos 0 ≤ℤ ((q.y.0 -ℤ o.y.0) *ℤ (r.x.0 -ℤ o.x.0)) = mul_nonpos_nonpos {a = q.y.0 -ℤ o.y.0} {b = r.x.0 -ℤ o.x.0} (omega (zz, sub_is q.y.0 o.y.0)) (omega (zz, runs k, sub_is r.x.0 o.x.0)) in
    let z : q.x.0 -ℤ o.x.0 ≡ pos 0 = omega (zz, sub_is q.x.0 o.x.0) in
    let y : (q.x.0 -ℤ o.x.0) *ℤ (r.y.0 -ℤ o.y.0) ≡ pos 0 = ap (λ s. s *ℤ (r.y.0 -ℤ o.y.0)) z ∙ zero-*ℤ (r.y.0 -ℤ o.y.0) in
    omega (zz, at_a o q r, add_is (turn o q r) ((q.y.0 -ℤ o.y.0) *ℤ (r.x.0 -ℤ o.x.0)))

pub not_first : {o q r : Point} → Before q o → Before r o → pos 0 <ℤ turn o q r → q.x.0 <ℤ o.x.0
not_first (by_x h) k l = h
not_first {o} {q} {r} (by_y e h) k l = let n = up_first o q r (sym e) (by_y e h) k in let c : ⊥ = omega zz in absurd c

module _ (e t : Segment) (u : e.a.x.0 ≡ e.b.x.0) (up : e.a.y.0 <ℤ e.b.y.0) where
  -- what lies below an upright e runs under its upper end
  pub up_each : Meets e t → Before t.a t.b → lower_at t e ≡ under-right e.b t
  unfolding lower_at under-right alive
  up_each m ft = ap (λ c. (le_z t.a.x.0 c && lt_z c t.b.x.0) && lower (o₁ t e) (lean t e)) u
      ∙ and_same (le_z t.a.x.0 e.b.x.0 && lt_z e.b.x.0 t.b.x.0) (λ c. go (le_of (and_l (le_z t.a.x.0 e.b.x.0) (lt_z e.b.x.0 t.b.x.0) c)) (lt_of (and_r (le_z t.a.x.0 e.b.x.0) (lt_z e.b.x.0 t.b.x.0) c)))
    where
      go : t.a.x.0 ≤ℤ e.b.x.0 → e.b.x.0 <ℤ t.b.x.0 → lower (o₁ t e) (lean t e) ≡ lt_z (pos 0) (o₂ t e)
      go h k = left_A e t (omega zz) (runs ft) (place_of m).1 (omega zz) (omega zz) ∙ sym (up_B e t (omega zz) (runs ft) (place_of m).1 h k (lean_up e t u up (omega zz)))

  -- and nothing that ends there stands before e
  pub up_none : Before t.a t.b → (ends e.b t && end_lt e.b t e) ≡ false
  unfolding ends end_lt
  up_none ft = go (same_point e.b t.b) refl
    where
      go : (c : Bool) → same_point e.b t.b ≡ c → (c && lt_z (pos 0) (turn e.b e.a t.a)) ≡ false
      go true q = lt-false (up_first e.b e.a t.a (sym u) (by_y u up) (subst (λ p. Before t.a p) (sym (point_of q)) ft))
      go false q = refl
