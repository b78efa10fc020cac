-- Along an edge e that is not upright the sum below it does not change. For each t of the list four tests: below e just right
-- of e.a (A), below e just left of e.b (Z), first end in the region under e (S), second end there (E). Each of the four
-- is a condition on x and, where that holds, the one answer of `Place e t`; the conditions alone satisfy A + S = Z + E
-- (`tally`, over four comparisons). Summed with the weights, S and E cancel by balance over the region.
use Rattle.std.specs.Prelude.{◌≡◌, List, Bool, not, ◌&&◌, ℤ, ◌≤ℤ◌, ◌<ℤ◌}
use Rattle.std.proofs.Common.{◌∙◌}
use Rattle.std.proofs.Math.Path.{ap}
use Rattle.std.specs.Int.Signed.{le_z, lt_z}
use Rattle.whole.specs.Order.{zz, add_is}
use Rattle.whole.specs.Sum.{All, Over, In}
use Rattle.whole.proofs.SumLaws.{all_map, all_both, over-two}
use Rattle.whole.specs.Test.{lt-true}
use Rattle.whole.proofs.TestLaws.{and_l, and_r, and_same, lt_of, le_of, lt_not, le_not}
use Rattle.geom.specs.declared.Point.{Point}
use Rattle.geom.specs.declared.Segment.{Segment}
use Rattle.geom.specs.Plane.{by_x}
use Rattle.segm.specs.Balance.{Balanced}
use Rattle.edges.specs.Below.{alive}
use Rattle.scan.specs.Masks.{bottom}
use Rattle.laws.specs.Sides.{reaches, below_end, bottom-end}
use Rattle.laws.specs.Points.{runs}
use Rattle.laws.proofs.BoundaryLaws.{region}
use Rattle.laws.specs.Place.{Place, left_A, right-Z, left-S, right-E}
use Rattle.laws.specs.Settled.{Settled, place_in}
use Rattle.laws.specs.Below.{lower_at, bottom_is}
use Rattle.laws.specs.Along.{Fair, beneath, moved, tally}

pub le_run : {p q : ℤ} → p <ℤ q → p ≤ℤ q
le_run h = omega zz

module _ (e t : Segment) (run : e.a.x.0 <ℤ e.b.x.0) (runs-t : t.a.x.0 ≤ℤ t.b.x.0) (s : Bool) (pl : Place e t s) where
  abbrev p : Bool
  p = lt_z e.a.x.0 t.a.x.0

  abbrev q : Bool
  q = lt_z e.a.x.0 t.b.x.0

  abbrev r : Bool
  r = lt_z t.a.x.0 e.b.x.0

  abbrev u : Bool
  u = lt_z t.b.x.0 e.b.x.0

  pub A_is : lower_at t e ≡ ((not p && q) && s)
  unfolding lower_at alive
  A_is = and_same (le_z t.a.x.0 e.a.x.0 && q) (λ h. left_A e t (le_run run) runs-t pl (le_of (and_l (le_z t.a.x.0 e.a.x.0) q h)) (lt_of (and_r (le_z t.a.x.0 e.a.x.0) q h)))
      ∙ ap (λ c. (c && q) && s) (le_not t.a.x.0 e.a.x.0)

  Z_is : below_end t e ≡ ((r && not u) && s)
  unfolding below_end reaches
  Z_is = and_same (r && le_z e.b.x.0 t.b.x.0) (λ h. right-Z e t (le_run run) runs-t pl (lt_of (and_l r (le_z e.b.x.0 t.b.x.0) h)) (le_of (and_r r (le_z e.b.x.0 t.b.x.0) h)))
      ∙ ap (λ c. (r && c) && s) (le_not e.b.x.0 t.b.x.0)

  S_is : beneath e t.a ≡ ((p && r) && s)
  unfolding beneath
  S_is = and_same (p && r) (λ h. left-S e t (le_run run) runs-t pl (lt_of (and_l p r h)) (lt_of (and_r p r h)))

  E_is : beneath e t.b ≡ ((q && u) && s)
  unfolding beneath
  E_is = and_same (q && u) (λ h. right-E e t (le_run run) runs-t pl (lt_of (and_l q u h)) (lt_of (and_r q u h)))

  pub fair : Fair e t
  fair = record {
    equal = rw (A_is, Z_is, S_is, E_is) (tally p q r u s
        (λ h. let k = lt_of {a = e.a.x.0} {b = t.a.x.0} h in let z : e.a.x.0 <ℤ t.b.x.0 = omega zz in lt-true z)
        (λ h. let k = lt_of {a = t.b.x.0} {b = e.b.x.0} h in let z : t.a.x.0 <ℤ e.b.x.0 = omega zz in lt-true z)
        (λ h. let k = lt_not {a = e.a.x.0} {b = t.a.x.0} h in let z : t.a.x.0 <ℤ e.b.x.0 = omega zz in lt-true z)
        (λ h. let k = lt_not {a = e.a.x.0} {b = t.b.x.0} h in let z : t.b.x.0 <ℤ e.b.x.0 = omega zz in lt-true z));
  }

-- e need not be in the list, and the list may be moved: it is enough that each is fair to e
pub along : (w : Segment → ℤ) (L : List Segment) (e : Segment) (g : Point → Point) → Balanced w L → All (λ t. Fair e (moved g t)) L → Over w (λ t. lower_at (moved g t) e) L ≡ Over w (λ t. below_end (moved g t) e) L
along w L e g bal fs =
    omega (
      zz,
      region w L bal (λ q. beneath e (g q)),
      over-two w (λ t. lower_at (moved g t) e) (λ t. beneath e (g t.a)) (λ t. below_end (moved g t) e) (λ t. beneath e (g t.b)) (all_map (λ t f. f.equal) fs),
      add_is (Over w (λ t. lower_at (moved g t) e) L) (Over w (λ t. beneath e (g t.a)) L),
      add_is (Over w (λ t. below_end (moved g t) e) L) (Over w (λ t. beneath e (g t.b)) L),
    )

-- Req 13, first half
pub both_ends : (w : Segment → ℤ) (L : List Segment) → Settled L → Balanced w L → (e : Segment) → In e L → e.a.x.0 <ℤ e.b.x.0 → bottom w L e ≡ bottom-end w L e
unfolding bottom-end
both_ends w L st bal e i run = bottom_is w L e (by_x run)
    ∙ along w L e (λ q. q) bal (all_map (λ t h. fair e t run (runs h.0) h.1.0 h.1.1) (all_both st.forward (place_in i st.apart)))
