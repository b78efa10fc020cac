-- Weights: a point on a segment is a mean of its ends, (u + v) P = d (v a + u b), u, v not under 0 and not both 0.
-- u and v are the offsets from the ends along x, or along y on an upright segment; no later proof splits on upright again.
-- From the weights: where P is (an end, or strictly between by the order of points), and what P on another line says of the turns of a and b.
use Rattle.std.specs.Prelude.{◌≡◌, [], ◌∷◌, ℤ, pos, ◌+ℤ◌, ◌-ℤ◌, ◌*ℤ◌, ◌≤ℤ◌, ◌<ℤ◌}
use Rattle.std.proofs.Common.{sym, ◌∙◌, ap, ap₂, inl, inr, ⊎_elim}
use Rattle.whole.specs.Order.{zz, add_is, sub_is}
use Rattle.whole.specs.Ring.{reads}
use Rattle.whole.proofs.RingLaws.{ring}
use Rattle.whole.proofs.SignLaws.{lt_or_le, mul_pos}
use Rattle.geom.specs.declared.Point.{Point}
use Rattle.geom.specs.declared.Segment.{Segment}
use Rattle.geom.specs.Plane.{Before, by_x, by_y, turn, against}
use Rattle.geom.specs.Off.{Off, cross, Within, On, Is}
use Rattle.plane.specs.Scaled.{at, spot, of_is, scale-lt, unscale, step}
use Rattle.plane.specs.Apart.{UpTo, o₁, o₂}
use Rattle.plane.specs.Weights.{Shares, Weights, lead_low, mean}

module _ (p q g h s t d : ℤ) (over : pos 0 <ℤ d) (grows : p <ℤ q) where
  rest-mean : (q -ℤ p) *ℤ (t -ℤ d *ℤ g) -ℤ (h -ℤ g) *ℤ (s -ℤ d *ℤ p) ≡ pos 0 → ((s -ℤ d *ℤ p) +ℤ (d *ℤ q -ℤ s)) *ℤ t ≡ mean d (s -ℤ d *ℤ p) (d *ℤ q -ℤ s) g h
  rest-mean e = parts ∙ ap (λ z. mean d (s -ℤ d *ℤ p) (d *ℤ q -ℤ s) g h +ℤ d *ℤ z) e ∙ none (mean d (s -ℤ d *ℤ p) (d *ℤ q -ℤ s) g h)
    where
      parts : ((s -ℤ d *ℤ p) +ℤ (d *ℤ q -ℤ s)) *ℤ t ≡ mean d (s -ℤ d *ℤ p) (d *ℤ q -ℤ s) g h +ℤ d *ℤ ((q -ℤ p) *ℤ (t -ℤ d *ℤ g) -ℤ (h -ℤ g) *ℤ (s -ℤ d *ℤ p))
      parts = ring (p ∷ q ∷ g ∷ h ∷ s ∷ t ∷ d ∷ []) (search reads depth 20 fits 5000) tt

      none : (m : ℤ) → m +ℤ d *ℤ pos 0 ≡ m
      none m = ring (m ∷ d ∷ []) (search reads depth 20 fits 5000) tt

  shares : Within d p q s → (q -ℤ p) *ℤ (t -ℤ d *ℤ g) -ℤ (h -ℤ g) *ℤ (s -ℤ d *ℤ p) ≡ pos 0 → Shares p q g h s t d
  shares w line = record {
    u = s -ℤ d *ℤ p;
    v = d *ℤ q -ℤ s;
    u_low = ((lead_low p q g h s t d over grows) w).0;
    v_low = ((lead_low p q g h s t d over grows) w).1;
    some = omega (zz, scale-lt d over grows, add_is (s -ℤ d *ℤ p) (d *ℤ q -ℤ s), sub_is s (d *ℤ p), sub_is (d *ℤ q) s);
    lead = ring (p ∷ q ∷ s ∷ d ∷ []) (search reads depth 20 fits 5000) tt;
    rest = rest-mean line;
  }

anti-zero : (p q : ℤ) → p -ℤ q ≡ pos 0 → q -ℤ p ≡ pos 0
anti-zero p q e = omega (zz, sub_is p q, sub_is q p)

pub weights : {e : Segment} {P : Off} → Before e.a e.b → On e P → Weights e P
unfolding cross
weights {e} {P} (by_x h) on =
    let S = shares e.a.x.0 e.b.x.0 e.a.y.0 e.b.y.0 P.X P.Y P.d P.over h on.wide on.line in
    record { u = S.u; v = S.v; u_low = S.u_low; v_low = S.v_low; some = S.some; mean_x = S.lead; mean_y = S.rest }
weights {e} {P} (by_y g h) on =
    let line = anti-zero ((e.b.x.0 -ℤ e.a.x.0) *ℤ (P.Y -ℤ P.d *ℤ e.a.y.0)) ((e.b.y.0 -ℤ e.a.y.0) *ℤ (P.X -ℤ P.d *ℤ e.a.x.0)) on.line in
    let S = shares e.a.y.0 e.b.y.0 e.a.x.0 e.b.x.0 P.Y P.X P.d P.over h on.high line in
    record { u = S.u; v = S.v; u_low = S.u_low; v_low = S.v_low; some = S.some; mean_x = S.rest; mean_y = S.lead }

-- ---- where P is
-- from a to P, from P to b
from_a : (X d u v p q : ℤ) → (u +ℤ v) *ℤ X ≡ mean d u v p q → (u +ℤ v) *ℤ X ≡ (u +ℤ v) *ℤ (d *ℤ p) +ℤ (d *ℤ u) *ℤ (q -ℤ p)
from_a X d u v p q e = e ∙ id
  where
    id : mean d u v p q ≡ (u +ℤ v) *ℤ (d *ℤ p) +ℤ (d *ℤ u) *ℤ (q -ℤ p)
    id = ring (d ∷ u ∷ v ∷ p ∷ q ∷ []) (search reads depth 20 fits 5000) tt

to_b : (X d u v p q : ℤ) → (u +ℤ v) *ℤ X ≡ mean d u v p q → (u +ℤ v) *ℤ (d *ℤ q) ≡ (u +ℤ v) *ℤ X +ℤ (d *ℤ v) *ℤ (q -ℤ p)
to_b X d u v p q e = id ∙ ap (λ t. t +ℤ (d *ℤ v) *ℤ (q -ℤ p)) (sym e)
  where
    id : (u +ℤ v) *ℤ (d *ℤ q) ≡ mean d u v p q +ℤ (d *ℤ v) *ℤ (q -ℤ p)
    id = ring (d ∷ u ∷ v ∷ p ∷ q ∷ []) (search reads depth 20 fits 5000) tt

stays : (w k z p q r : ℤ) → pos 0 <ℤ w → k ≡ pos 0 → w *ℤ q ≡ w *ℤ p +ℤ (z *ℤ k) *ℤ r → q ≡ p
stays w k z p q r wp e h = unscale w wp (h ∙ ap (λ t. w *ℤ p +ℤ (z *ℤ t) *ℤ r) e ∙ none)
  where
    none : w *ℤ p +ℤ (z *ℤ pos 0) *ℤ r ≡ w *ℤ p
    none = ring (w ∷ p ∷ z ∷ r ∷ []) (search reads depth 20 fits 5000) tt

module _ {e : Segment} {P : Off} (W : Weights e P) where
  ax : (W.u +ℤ W.v) *ℤ P.X ≡ (W.u +ℤ W.v) *ℤ (P.d *ℤ e.a.x.0) +ℤ (P.d *ℤ W.u) *ℤ (e.b.x.0 -ℤ e.a.x.0)
  ax = from_a P.X P.d W.u W.v e.a.x.0 e.b.x.0 W.mean_x

  ay : (W.u +ℤ W.v) *ℤ P.Y ≡ (W.u +ℤ W.v) *ℤ (P.d *ℤ e.a.y.0) +ℤ (P.d *ℤ W.u) *ℤ (e.b.y.0 -ℤ e.a.y.0)
  ay = from_a P.Y P.d W.u W.v e.a.y.0 e.b.y.0 W.mean_y

  bx : (W.u +ℤ W.v) *ℤ (P.d *ℤ e.b.x.0) ≡ (W.u +ℤ W.v) *ℤ P.X +ℤ (P.d *ℤ W.v) *ℤ (e.b.x.0 -ℤ e.a.x.0)
  bx = to_b P.X P.d W.u W.v e.a.x.0 e.b.x.0 W.mean_x

  by : (W.u +ℤ W.v) *ℤ (P.d *ℤ e.b.y.0) ≡ (W.u +ℤ W.v) *ℤ P.Y +ℤ (P.d *ℤ W.v) *ℤ (e.b.y.0 -ℤ e.a.y.0)
  by = to_b P.Y P.d W.u W.v e.a.y.0 e.b.y.0 W.mean_y

  pub is_a : W.u ≡ pos 0 → Is P e.a
  is_a h = record {
    is_x = stays (W.u +ℤ W.v) W.u P.d (P.d *ℤ e.a.x.0) P.X (e.b.x.0 -ℤ e.a.x.0) W.some h ax;
    is_y = stays (W.u +ℤ W.v) W.u P.d (P.d *ℤ e.a.y.0) P.Y (e.b.y.0 -ℤ e.a.y.0) W.some h ay;
  }

  pub is_b : W.v ≡ pos 0 → Is P e.b
  is_b h = record {
    is_x = sym (stays (W.u +ℤ W.v) W.v P.d P.X (P.d *ℤ e.b.x.0) (e.b.x.0 -ℤ e.a.x.0) W.some h bx);
    is_y = sym (stays (W.u +ℤ W.v) W.v P.d P.Y (P.d *ℤ e.b.y.0) (e.b.y.0 -ℤ e.a.y.0) W.some h by);
  }

  pub after_a : Before e.a e.b → pos 0 <ℤ W.u → Before (at P.d e.a) (spot P)
  after_a g h = step (W.u +ℤ W.v) (P.d *ℤ W.u) W.some (at P.d e.a) (spot P) e.a e.b (mul_pos P.over h) ax ay g

  pub before_b : Before e.a e.b → pos 0 <ℤ W.v → Before (spot P) (at P.d e.b)
  before_b g h = step (W.u +ℤ W.v) (P.d *ℤ W.v) W.some (spot P) (at P.d e.b) e.a e.b (mul_pos P.over h) bx by g

-- P comes neither before a nor after b
pub first : {e : Segment} {P : Off} → Before e.a e.b → On e P → UpTo (at P.d e.a) (spot P)
first g on =
    let W = weights g on in
    ⊎_elim (λ (h : pos 0 <ℤ W.u). inr (after_a W g h)) (λ (h : W.u ≤ℤ pos 0). inl (sym (of_is (is_a W (omega (zz, W.u_low)))))) (lt_or_le (pos 0) W.u)

pub last : {e : Segment} {P : Off} → Before e.a e.b → On e P → UpTo (spot P) (at P.d e.b)
last g on =
    let W = weights g on in
    ⊎_elim (λ (h : pos 0 <ℤ W.v). inr (before_b W g h)) (λ (h : W.v ≤ℤ pos 0). inl (of_is (is_b W (omega (zz, W.v_low))))) (lt_or_le (pos 0) W.v)

-- ---- the key equation: P, of weights u, v on f, lies on the line of e
linear : (A B C X Y d u v p q r s : ℤ) → (u +ℤ v) *ℤ X ≡ mean d u v p r → (u +ℤ v) *ℤ Y ≡ mean d u v q s → (u +ℤ v) *ℤ (A *ℤ X +ℤ B *ℤ Y +ℤ C *ℤ d) ≡ d *ℤ (v *ℤ (A *ℤ p +ℤ B *ℤ q +ℤ C) +ℤ u *ℤ (A *ℤ r +ℤ B *ℤ s +ℤ C))
linear A B C X Y d u v p q r s h k = spread ∙ ap₂ (λ x y. A *ℤ x +ℤ B *ℤ y +ℤ C *ℤ d *ℤ (u +ℤ v)) h k ∙ gather
  where
    spread : (u +ℤ v) *ℤ (A *ℤ X +ℤ B *ℤ Y +ℤ C *ℤ d) ≡ A *ℤ ((u +ℤ v) *ℤ X) +ℤ B *ℤ ((u +ℤ v) *ℤ Y) +ℤ C *ℤ d *ℤ (u +ℤ v)
    spread = ring (A ∷ B ∷ C ∷ X ∷ Y ∷ d ∷ u ∷ v ∷ []) (search reads depth 20 fits 5000) tt

    gather : A *ℤ mean d u v p r +ℤ B *ℤ mean d u v q s +ℤ C *ℤ d *ℤ (u +ℤ v) ≡ d *ℤ (v *ℤ (A *ℤ p +ℤ B *ℤ q +ℤ C) +ℤ u *ℤ (A *ℤ r +ℤ B *ℤ s +ℤ C))
    gather = ring (A ∷ B ∷ C ∷ d ∷ u ∷ v ∷ p ∷ q ∷ r ∷ s ∷ []) (search reads depth 20 fits 5000) tt

-- the line of e, A x + B y + C
abbrev line_a : Segment → ℤ
line_a e = e.a.y.0 -ℤ e.b.y.0

abbrev line_b : Segment → ℤ
line_b e = e.b.x.0 -ℤ e.a.x.0

abbrev line_c : Segment → ℤ
line_c e = (e.b.y.0 -ℤ e.a.y.0) *ℤ e.a.x.0 -ℤ (e.b.x.0 -ℤ e.a.x.0) *ℤ e.a.y.0

line-cross : (e : Segment) (P : Off) → cross e P ≡ line_a e *ℤ P.X +ℤ line_b e *ℤ P.Y +ℤ line_c e *ℤ P.d
unfolding cross
line-cross e P = ring (e.a.x.0 ∷ e.a.y.0 ∷ e.b.x.0 ∷ e.b.y.0 ∷ P.X ∷ P.Y ∷ P.d ∷ []) (search reads depth 20 fits 5000) tt

line-turn : (e : Segment) (p : Point) → against e p ≡ line_a e *ℤ p.x.0 +ℤ line_b e *ℤ p.y.0 +ℤ line_c e
unfolding turn
line-turn e p = ring (e.a.x.0 ∷ e.a.y.0 ∷ e.b.x.0 ∷ e.b.y.0 ∷ p.x.0 ∷ p.y.0 ∷ []) (search reads depth 20 fits 5000) tt

pub linear_turn : {f : Segment} {P : Off} (e : Segment) (W : Weights f P) → (W.u +ℤ W.v) *ℤ cross e P ≡ P.d *ℤ (W.v *ℤ o₁ e f +ℤ W.u *ℤ o₂ e f)
linear_turn {f} {P} e W = rw (line-cross e P, line-turn e f.a, line-turn e f.b) (linear (line_a e) (line_b e) (line_c e) P.X P.Y P.d W.u W.v f.a.x.0 f.a.y.0 f.b.x.0 f.b.y.0 W.mean_x W.mean_y)

pub key : {f : Segment} {P : Off} (e : Segment) (W : Weights f P) → cross e P ≡ pos 0 → W.v *ℤ o₁ e f +ℤ W.u *ℤ o₂ e f ≡ pos 0
key {f} {P} e W h = unscale P.d P.over (sym (linear_turn e W) ∙ ap (λ t. (W.u +ℤ W.v) *ℤ t) h ∙ nought (W.u +ℤ W.v) P.d)
  where
    nought : (m n : ℤ) → m *ℤ pos 0 ≡ n *ℤ pos 0
    nought m n = ring (m ∷ n ∷ []) (search reads depth 20 fits 5000) tt
