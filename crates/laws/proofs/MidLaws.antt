-- The sum below an edge e anywhere along it: at a point X/d, Y/d strictly within e the sum over what passes strictly under that point is the bottom of e.
-- The argument of `Along`, with the strip cut at X/d.
use Rattle.std.specs.Prelude.{◌≡◌, List, [], ◌∷◌, Bool, not, ◌&&◌, ℤ, pos, neg_ℤ, ◌+ℤ◌, ◌-ℤ◌, ◌*ℤ◌, ◌≤ℤ◌, ◌<ℤ◌}
use Rattle.std.proofs.Common.{sym, ◌∙◌}
use Rattle.std.proofs.Math.Path.{ap}
use Rattle.std.proofs.Math.Bool.{not-not}
use Rattle.std.proofs.Math.IntN.{*ℤ-zero, *ℤ_comm}
use Rattle.std.specs.Int.Signed.{le_z, lt_z}
use Rattle.whole.specs.Order.{zz, add_is, sub_is, neg_is}
use Rattle.whole.specs.Ring.{reads}
use Rattle.whole.proofs.RingLaws.{ring}
use Rattle.whole.proofs.SignLaws.{cancel_lt, mul_mono}
use Rattle.whole.specs.Sum.{ind, Over, In}
use Rattle.whole.proofs.SumLaws.{all_map, all_both, over-two}
use Rattle.whole.specs.Test.{lt-true, lt-false, le-true}
use Rattle.whole.proofs.TestLaws.{and_l, and_r, and_same, lt_of, le_of, lt_not, le_not}
use Rattle.geom.specs.declared.Point.{Point}
use Rattle.geom.specs.declared.Segment.{Segment}
use Rattle.geom.specs.Plane.{turn, against, by_x}
use Rattle.geom.specs.Off.{Off, cross}
use Rattle.plane.specs.Apart.{o₁, o₂}
use Rattle.segm.specs.Balance.{Balanced}
use Rattle.scan.specs.Masks.{bottom}
use Rattle.laws.specs.Ray.{alive_at, crossed, ray}
use Rattle.laws.specs.Points.{runs}
use Rattle.laws.proofs.BoundaryLaws.{region}
use Rattle.laws.specs.Place.{Place, level, over_e, under_e, up_l, up_r, dn_l, dn_r, pull_dn, pull_dn', pull_up, pull_up', gap, gap≤, weak, weak⁻, left-S, right-E}
use Rattle.laws.specs.Settled.{Settled, place_in}
use Rattle.laws.specs.Below.{lower_at, bottom_is}
use Rattle.laws.specs.Along.{tally}
use Rattle.laws.proofs.AlongLaws.{le_run, A_is}
use Rattle.laws.proofs.NodeLaws.{no_factor}
use Rattle.laws.specs.Mid.{Inside}

-- ---- the height of t over e at X/d, from the ends of t, and from the ends of e
cut_t : (e t : Segment) (P : Off) → (P.d *ℤ t.b.x.0 -ℤ P.X) *ℤ o₁ e t +ℤ (P.X -ℤ P.d *ℤ t.a.x.0) *ℤ o₂ e t ≡ neg_ℤ ((e.b.x.0 -ℤ e.a.x.0) *ℤ cross t P) +ℤ (t.b.x.0 -ℤ t.a.x.0) *ℤ cross e P
unfolding turn cross
cut_t e t P = ring (e.a.x.0 ∷ e.a.y.0 ∷ e.b.x.0 ∷ e.b.y.0 ∷ t.a.x.0 ∷ t.a.y.0 ∷ t.b.x.0 ∷ t.b.y.0 ∷ P.X ∷ P.Y ∷ P.d ∷ []) (search reads depth 40 fits 50000) tt

cut_e : (e t : Segment) (P : Off) → (P.d *ℤ e.b.x.0 -ℤ P.X) *ℤ o₁ t e +ℤ (P.X -ℤ P.d *ℤ e.a.x.0) *ℤ o₂ t e ≡ neg_ℤ ((e.b.x.0 -ℤ e.a.x.0) *ℤ neg_ℤ (cross t P)) +ℤ neg_ℤ (t.b.x.0 -ℤ t.a.x.0) *ℤ cross e P
unfolding turn cross
cut_e e t P = ring (e.a.x.0 ∷ e.a.y.0 ∷ e.b.x.0 ∷ e.b.y.0 ∷ t.a.x.0 ∷ t.a.y.0 ∷ t.b.x.0 ∷ t.b.y.0 ∷ P.X ∷ P.Y ∷ P.d ∷ []) (search reads depth 40 fits 50000) tt

pub drop : (m k z : ℤ) {n : ℤ} → n ≡ m +ℤ k *ℤ z → z ≡ pos 0 → n ≡ m
drop m k z e h = omega (zz, add_is m (k *ℤ z), ap (λ s. k *ℤ s) h ∙ *ℤ-zero k)

unfoldable beneath_to : Segment → Off → Point → Bool
beneath_to e P q = (lt_z e.a.x.0 q.x.0 && le_z (P.d *ℤ q.x.0) P.X) && lt_z (against e q) (pos 0)

gt_not : (a b : ℤ) → lt_z b a ≡ not (le_z a b)
gt_not a b = sym (not-not (lt_z b a)) ∙ ap not (sym (le_not a b))

module _ (e t : Segment) (P : Off) (i : Inside e P) (run : e.a.x.0 <ℤ e.b.x.0) (runs-t : t.a.x.0 ≤ℤ t.b.x.0) where
  e1 : (P.d *ℤ t.b.x.0 -ℤ P.X) *ℤ o₁ e t +ℤ (P.X -ℤ P.d *ℤ t.a.x.0) *ℤ o₂ e t ≡ neg_ℤ ((e.b.x.0 -ℤ e.a.x.0) *ℤ cross t P)
  e1 = drop (neg_ℤ ((e.b.x.0 -ℤ e.a.x.0) *ℤ cross t P)) (t.b.x.0 -ℤ t.a.x.0) (cross e P) (cut_t e t P) i.line

  e2 : (P.d *ℤ e.b.x.0 -ℤ P.X) *ℤ o₁ t e +ℤ (P.X -ℤ P.d *ℤ e.a.x.0) *ℤ o₂ t e ≡ neg_ℤ ((e.b.x.0 -ℤ e.a.x.0) *ℤ neg_ℤ (cross t P))
  e2 = drop (neg_ℤ ((e.b.x.0 -ℤ e.a.x.0) *ℤ neg_ℤ (cross t P))) (neg_ℤ (t.b.x.0 -ℤ t.a.x.0)) (cross e P) (cut_e e t P) i.line

  dx : pos 0 <ℤ (e.b.x.0 -ℤ e.a.x.0)
  dx = omega (zz, sub_is e.b.x.0 e.a.x.0)

  u : pos 0 <ℤ (P.d *ℤ e.b.x.0 -ℤ P.X)
  u = omega (zz, i.short, sub_is (P.d *ℤ e.b.x.0) P.X)

  v : pos 0 <ℤ (P.X -ℤ P.d *ℤ e.a.x.0)
  v = omega (zz, i.past, sub_is P.X (P.d *ℤ e.a.x.0))

  un_neg : neg_ℤ (cross t P) <ℤ pos 0 → pos 0 <ℤ cross t P
  un_neg h = omega (zz, neg_is (cross t P))

  un_pos : pos 0 <ℤ neg_ℤ (cross t P) → cross t P ≤ℤ pos 0
  un_pos h = omega (zz, neg_is (cross t P))

  flat : o₁ t e ≡ pos 0 → o₂ t e ≡ pos 0 → cross t P ≤ℤ pos 0
  flat p q = omega (
    zz,
    no_factor (e.b.x.0 -ℤ e.a.x.0) {A = neg_ℤ (cross t P)} dx (omega (
      zz,
      e2,
      neg_is ((e.b.x.0 -ℤ e.a.x.0) *ℤ neg_ℤ (cross t P)),
      add_is ((P.d *ℤ e.b.x.0 -ℤ P.X) *ℤ o₁ t e) ((P.X -ℤ P.d *ℤ e.a.x.0) *ℤ o₂ t e),
      ap (λ s. (P.d *ℤ e.b.x.0 -ℤ P.X) *ℤ s) p ∙ *ℤ-zero (P.d *ℤ e.b.x.0 -ℤ P.X),
      ap (λ s. (P.X -ℤ P.d *ℤ e.a.x.0) *ℤ s) q ∙ *ℤ-zero (P.X -ℤ P.d *ℤ e.a.x.0),
    )),
    neg_is (cross t P),
  )

  mid : {s : Bool} → Place e t s → (P.d *ℤ t.a.x.0) ≤ℤ P.X → P.X <ℤ (P.d *ℤ t.b.x.0) → lt_z (pos 0) (cross t P) ≡ s
  mid (level p q r s) h k = lt-false (flat r s)
  mid (over_e p q) h k = lt-false (weak⁻ (pull_dn e1 (weak dx) (gap P.X (P.d *ℤ t.b.x.0) k) (gap≤ (P.d *ℤ t.a.x.0) P.X h) p (weak q)))
  mid (under_e p q) h k = lt-true (pull_up e1 (weak dx) (gap P.X (P.d *ℤ t.b.x.0) k) (gap≤ (P.d *ℤ t.a.x.0) P.X h) p (weak⁻ q))
  mid (up_l p q) h k = lt-true (un_neg (pull_dn e2 (weak dx) u (weak v) p q))
  mid (up_r p q) h k = lt-true (un_neg (pull_dn' e2 (weak dx) (weak u) v p q))
  mid (dn_l p q) h k = lt-false (un_pos (pull_up e2 (weak dx) u (weak v) p q))
  mid (dn_r p q) h k = lt-false (un_pos (pull_up' e2 (weak dx) (weak u) v p q))

  abbrev p : Bool
  p = lt_z e.a.x.0 t.a.x.0

  abbrev q : Bool
  q = lt_z e.a.x.0 t.b.x.0

  abbrev r : Bool
  r = le_z (P.d *ℤ t.a.x.0) P.X

  abbrev y : Bool
  y = le_z (P.d *ℤ t.b.x.0) P.X

  near : (z : ℤ) → (P.d *ℤ z) ≤ℤ P.X → z <ℤ e.b.x.0
  near z h = cancel_lt P.d P.over (omega (zz, i.short, *ℤ_comm z P.d, *ℤ_comm e.b.x.0 P.d))

  far : (z : ℤ) → z ≤ℤ e.a.x.0 → (P.d *ℤ z) ≤ℤ P.X
  far z h = let k : pos 0 ≤ℤ P.d = omega (zz, P.over) in omega (zz, i.past, mul_mono P.d k h, *ℤ_comm z P.d, *ℤ_comm e.a.x.0 P.d)

  further : t.a.x.0 ≤ℤ t.b.x.0 → (P.d *ℤ t.b.x.0) ≤ℤ P.X → (P.d *ℤ t.a.x.0) ≤ℤ P.X
  further g h = let k : pos 0 ≤ℤ P.d = omega (zz, P.over) in omega (zz, mul_mono P.d k g, *ℤ_comm t.a.x.0 P.d, *ℤ_comm t.b.x.0 P.d)

  module _ (s : Bool) (pl : Place e t s) where
    M_is : crossed P t ≡ ((r && not y) && s)
    unfolding crossed alive_at
    M_is = and_same (r && lt_z P.X (P.d *ℤ t.b.x.0)) (λ h. mid pl (le_of (and_l r (lt_z P.X (P.d *ℤ t.b.x.0)) h)) (lt_of (and_r r (lt_z P.X (P.d *ℤ t.b.x.0)) h)))
        ∙ ap (λ c. (r && c) && s) (gt_not (P.d *ℤ t.b.x.0) P.X)

    S_is : beneath_to e P t.a ≡ ((p && r) && s)
    unfolding beneath_to
    S_is = and_same (p && r) (λ h. left-S e t (le_run run) runs-t pl (lt_of (and_l p r h)) (near t.a.x.0 (le_of (and_r p r h))))

    E_is : beneath_to e P t.b ≡ ((q && y) && s)
    unfolding beneath_to
    E_is = and_same (q && y) (λ h. right-E e t (le_run run) runs-t pl (lt_of (and_l q y h)) (near t.b.x.0 (le_of (and_r q y h))))

    each : ind (lower_at t e) +ℤ ind (beneath_to e P t.a) ≡ ind (crossed P t) +ℤ ind (beneath_to e P t.b)
    each = rw (A_is e t run runs-t s pl, M_is, S_is, E_is) (tally p q r y s
        (λ h. let k = lt_of {a = e.a.x.0} {b = t.a.x.0} h in let z : e.a.x.0 <ℤ t.b.x.0 = omega zz in lt-true z)
        (λ h. le-true (further runs-t (le_of h)))
        (λ h. le-true (far t.a.x.0 (lt_not h)))
        (λ h. le-true (far t.b.x.0 (lt_not h))))

-- THE THEOREM
pub anywhere : (w : Segment → ℤ) (L : List Segment) → Settled L → Balanced w L → (e : Segment) → In e L → e.a.x.0 <ℤ e.b.x.0 → (P : Off) → Inside e P → bottom w L e ≡ ray w L P
unfolding ray
anywhere w L st bal e i run P ins =
    omega (
      zz,
      bottom_is w L e (by_x run),
      region w L bal (beneath_to e P),
      over-two w (λ t. lower_at t e) (λ t. beneath_to e P t.a) (crossed P) (λ t. beneath_to e P t.b)
          (all_map (λ t h. each e t P ins run (runs h.0) h.1.0 h.1.1) (all_both st.forward (place_in i st.apart))),
      add_is (Over w (λ t. lower_at t e) L) (Over w (λ t. beneath_to e P t.a) L),
      add_is (Over w (crossed P) L) (Over w (λ t. beneath_to e P t.b) L),
    )
