-- The sign law: for any g the signs g(top) - g(bottom) are balanced wherever the weights are.
-- At p let B be what runs strictly under p, on the right. An edge that starts at p has for bottom B and the counts of those
-- that start there below it; one that ends at p has for bottom B and the counts of those that end there below it (read at
-- its right end, `both_ends`, and over the column, `columns`; an upright one at once). Both families telescope, from B
-- to B with all that starts, or ends, at p: the same.
use Rattle.std.specs.Prelude.{◌≡◌, List, [], ◌∷◌, true, ◌&&◌, ℤ, ◌+ℤ◌, ◌<ℤ◌}
use Rattle.std.proofs.Math.Path.{sym, ap, fun_ext}
use Rattle.std.proofs.Common.{◌∙◌}
use Rattle.whole.specs.Order.{zz, add_is}
use Rattle.whole.specs.Sum.{All, none, also, Over, keep, In, here, there}
use Rattle.whole.proofs.SumLaws.{all_map, all_both, sum_on, over-same, over_none, over-one, over-two, sum-keep, over-keep, all_keep, pairs_keep, pairs_map}
use Rattle.geom.specs.declared.Point.{Point}
use Rattle.geom.specs.declared.Segment.{Segment}
use Rattle.geom.specs.Plane.{Before, by_x, by_y, Side, count, subject, clip}
use Rattle.segm.specs.Balance.{Balanced}
use Rattle.scan.specs.Masks.{bottom, top}
use Rattle.laws.specs.Sides.{below_end, bottom-end}
use Rattle.laws.specs.Points.{point_of}
use Rattle.laws.specs.Telescope.{rise, Lower}
use Rattle.laws.proofs.TelescopeLaws.{telescope}
use Rattle.laws.specs.Settled.{Settled, meets_in}
use Rattle.laws.specs.Below.{lower_at, bottom_is}
use Rattle.laws.proofs.AlongLaws.{both_ends}
use Rattle.laws.specs.Column.{under-right, under_left, upto, base_right}
use Rattle.laws.proofs.ColumnLaws.{columns}
use Rattle.laws.specs.Node.{starts, ends, start-lt, end_lt}
use Rattle.laws.proofs.NodeLaws.{start-each, end-each, up_each, up_none}
use Rattle.laws.proofs.FanLaws.{start-strict, end-strict, start-told, end-told}
use Rattle.laws.specs.Foot.{u}
use Rattle.laws.specs.Law.{sign, sign_of_sides}

all_self : {A : Type 0} (L : List A) → All (λ t. In t L) L
all_self [] = none
all_self (t ∷ L) = also here (all_map (λ s i. there i) (all_self L))

module _ (w : Segment → ℤ) (L : List Segment) (st : Settled L) where
  -- the bottom of an edge that starts at p
  pub start-bottom : (p : Point) (e : Segment) → In e L → p ≡ e.a → Before e.a e.b → bottom w L e ≡ base_right w L p +ℤ Lower (start-lt p) w (keep (starts p) L) e
  unfolding base_right Lower
  start-bottom p e i q fe = bottom_is w L e fe ∙ rw q (over-one w (λ t. lower_at t e) (under-right e.a) (λ t. starts e.a t && start-lt e.a t e)
      (all_map (λ t m. start-each m.0 fe m.1) (all_both (meets_in i st.apart) st.forward))
      ∙ ap (λ s. Over w (under-right e.a) L +ℤ s) (sym (over-keep w (starts e.a) (λ t. start-lt e.a t e) L)))

  -- of one that ends at p
  module _ (bal : Balanced w L) where
    end_run : (e : Segment) → In e L → Before e.a e.b → e.a.x.0 <ℤ e.b.x.0 → bottom w L e ≡ base_right w L e.b +ℤ Over w (λ t. ends e.b t && end_lt e.b t e) L
    unfolding base_right bottom-end
    end_run e i fe run = omega (
      zz,
      both_ends w L st bal e i run,
      columns w L (λ q. q) bal st.forward e.b,
      over-two w (λ t. below_end t e) (upto e.b) (under_left e.b) (λ t. ends e.b t && end_lt e.b t e)
          (all_map (λ t m. end-each m.0 fe run m.1) (all_both (meets_in i st.apart) st.forward)),
      add_is (Over w (under-right e.b) L) (Over w (upto e.b) L),
      add_is (Over w (λ t. below_end t e) L) (Over w (upto e.b) L),
      add_is (Over w (under_left e.b) L) (Over w (λ t. ends e.b t && end_lt e.b t e) L),
      add_is (Over w (under-right e.b) L) (Over w (λ t. ends e.b t && end_lt e.b t e) L),
    )

    end_up : (e : Segment) → In e L → e.a.x.0 ≡ e.b.x.0 → e.a.y.0 <ℤ e.b.y.0 → bottom w L e ≡ base_right w L e.b +ℤ Over w (λ t. ends e.b t && end_lt e.b t e) L
    unfolding base_right
    end_up e i u up = omega (
      zz,
      bottom_is w L e (by_y u up),
      over-same w (all_map (λ t m. up_each e t u up m.0 m.1) (all_both (meets_in i st.apart) st.forward)),
      over_none w (all_map (λ t ft. up_none e t u up ft) st.forward),
      add_is (Over w (under-right e.b) L) (Over w (λ t. ends e.b t && end_lt e.b t e) L),
    )

    end_whole : (e : Segment) → In e L → Before e.a e.b → bottom w L e ≡ base_right w L e.b +ℤ Over w (λ t. ends e.b t && end_lt e.b t e) L
    end_whole e i (by_x h) = end_run e i (by_x h) h
    end_whole e i (by_y u h) = end_up e i u h

    pub end-bottom : (p : Point) (e : Segment) → In e L → p ≡ e.b → Before e.a e.b → bottom w L e ≡ base_right w L p +ℤ Lower (end_lt p) w (keep (ends p) L) e
    unfolding Lower
    end-bottom p e i q fe = rw q (end_whole e i fe ∙ ap (λ s. base_right w L e.b +ℤ s) (sym (over-keep w (ends e.b) (λ t. end_lt e.b t e) L)))

module _ {I : Type 0} (g : (I → ℤ) → ℤ) (w : I → Segment → ℤ) (L : List Segment) (st : Settled L) (bal : (i : I) → Balanced (w i) L) (p : Point) where
  base : I → ℤ
  base i = base_right (w i) L p

  start-total : Over (sign g w L) (starts p) L ≡ rise g base (λ i. Over (w i) (starts p) L)
  unfolding sign rise top starts base
  start-total = sym (sum-keep (sign g w L) (starts p) L)
      ∙ sum_on (all_map (λ e h. ap (λ P. rise g P (λ i. w i e)) (fun_ext (λ i. start-bottom (w i) L st p e h.1.0 (point_of h.0) h.1.1))) mine)
      ∙ telescope (start-lt p) (λ t. (p ≡ t.a) × (Before t.a t.b)) (start-strict p) g w base (keep (starts p) L) good (pairs_map (start-told p) good (pairs_keep (starts p) st.apart))
      ∙ ap (λ P. rise g base P) (fun_ext (λ i. sum-keep (w i) (starts p) L))
    where
      mine : All (λ e. (starts p e ≡ true) × (In e L × (Before e.a e.b))) (keep (starts p) L)
      mine = all_keep (starts p) (all_both (all_self L) st.forward)

      good : All (λ e. (p ≡ e.a) × (Before e.a e.b)) (keep (starts p) L)
      good = all_map (λ e h. (point_of h.0, h.1.1)) mine

  end-total : Over (sign g w L) (ends p) L ≡ rise g base (λ i. Over (w i) (ends p) L)
  unfolding sign rise top ends base
  end-total = sym (sum-keep (sign g w L) (ends p) L)
      ∙ sum_on (all_map (λ e h. ap (λ P. rise g P (λ i. w i e)) (fun_ext (λ i. end-bottom (w i) L st (bal i) p e h.1.0 (point_of h.0) h.1.1))) mine)
      ∙ telescope (end_lt p) (λ t. (p ≡ t.b) × (Before t.a t.b)) (end-strict p) g w base (keep (ends p) L) good (pairs_map (end-told p) good (pairs_keep (ends p) st.apart))
      ∙ ap (λ P. rise g base P) (fun_ext (λ i. sum-keep (w i) (ends p) L))
    where
      mine : All (λ e. (ends p e ≡ true) × (In e L × (Before e.a e.b))) (keep (ends p) L)
      mine = all_keep (ends p) (all_both (all_self L) st.forward)

      good : All (λ e. (p ≡ e.b) × (Before e.a e.b)) (keep (ends p) L)
      good = all_map (λ e h. (point_of h.0, h.1.1)) mine

  law_at : Over (sign g w L) (starts p) L ≡ Over (sign g w L) (ends p) L
  unfolding Balanced starts ends
  law_at = start-total ∙ ap (λ P. rise g base P) (fun_ext (λ i. bal i p)) ∙ sym end-total

-- THE LAW: where every weight is balanced, so is the sign, whatever g
pub sign_law : {I : Type 0} (g : (I → ℤ) → ℤ) (w : I → Segment → ℤ) (L : List Segment) → Settled L → ((i : I) → Balanced (w i) L) → Balanced (sign g w L) L
unfolding Balanced starts ends
sign_law g w L st bal p = law_at g w L st bal p

pub sides_law : (r : ℤ → ℤ → ℤ) (L : List Segment) → Settled L → ((s : Side) → Balanced (count s) L) → Balanced (sign_of_sides r L) L
unfolding sign sign_of_sides
sides_law r L st bal = sign_law (λ P. r (P subject) (P clip)) count L st bal
