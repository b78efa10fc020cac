-- The height of an edge t at e.a by one turn, and the slope, where e.a lies on t's line, by another: there `lean` is the turn at e.b.
use mathlib.Core.Path.{◌≡◌, refl, sym, ◌∙◌}
use mathlib.Core.Bool.{Bool, true, false, not, cond}
use mathlib.Core.List.{[], ◌∷◌}
use lib.IntN.{ℤ, pos, ◌+ℤ◌}
use lib.Signed.{lt_z, ◌<ℤ◌}
use Rattle.whole.specs.Order.{zz, add_is}
use Rattle.whole.specs.Ring.{reads}
use Rattle.whole.proofs.RingLaws.{ring}
use Rattle.whole.specs.Sign.{Tri, less, same as level, more}
use Rattle.whole.proofs.SignLaws.{tri}
use Rattle.whole.specs.Test.{is_false, tests, lt-true, lt_gt, le-true}
use Rattle.whole.proofs.TestLaws.{of_true, and_l, and_r, lt_not, eq_z-true}
use Rattle.geom.specs.declared.Segment.{Segment}
use Rattle.geom.specs.Plane.{turn, against, upright, sameZ, before, by_x}
use Rattle.geom.specs.Tests.{when_false}
use Rattle.geom.proofs.TestsLaws.{before?}
use Rattle.edges.specs.Below.{alive, lean, lower, under, below, live, under_at}

same : (u : Bool) {a b c : Bool} → a ≡ c → b ≡ c → cond u a b ≡ c
same true p q = p
same false p q = q

not_true : (b : Bool) → not b ≡ true → b ≡ false
not_true true e = sym e
not_true false e = refl

-- ---- alive

module _ (x : ℤ) (t : Segment) where
  pub begun : lt_z x t.a.x.0 ≡ false → alive x t ≡ lt_z x t.b.x.0
  unfolding alive
  begun q = rw (le-true (lt_not q))

-- ---- under

module _ (t e : Segment) where
  pub lies_under : pos 0 <ℤ against t e.a → under t e ≡ true
  unfolding under lower
  lies_under k = same (upright e) (simp tests) (simp tests)

  pub lies_over : against t e.a <ℤ pos 0 → under t e ≡ false
  unfolding under lower
  lies_over k = same (upright e) (simp tests) (simp tests)

  -- e.a does not lie on t's line
  pub by_height : sameZ (against t e.a) (pos 0) ≡ false → under t e ≡ lt_z (pos 0) (against t e.a)
  by_height q = go (tri (against t e.a) (pos 0))
    where
      go : Tri (against t e.a) (pos 0) → under t e ≡ lt_z (pos 0) (against t e.a)
      go (less h) = lies_over h ∙ sym (lt_gt h)
      go (level h) = absurd (of_true (sym q ∙ eq_z-true h))
      go (more h) = lies_under h ∙ sym (lt-true h)

  -- e.a lies on t's line
  turns : lean t e +ℤ against t e.a ≡ against t e.b
  unfolding lean turn
  turns =
      ring (t.a.x.0 ∷ t.a.y.0 ∷ t.b.x.0 ∷ t.b.y.0 ∷ e.a.x.0 ∷ e.a.y.0 ∷ e.b.x.0 ∷ e.b.y.0 ∷ []) (search reads depth 20 fits 5000) tt

  pub lies_on : against t e.a ≡ pos 0 → under t e ≡ under_at t e
  unfolding under lower
  lies_on z =
      let s : lean t e ≡ against t e.b = omega (zz, turns, add_is (lean t e) (against t e.a)) in
      rw s (simp tests)

  -- and t is live at e.a: then it is below e just if it passes under e.a
  pub passing : live e.a t ≡ true → sameZ (against t e.a) (pos 0) ≡ false → below t e ≡ lt_z (pos 0) (against t e.a)
  unfolding below live
  passing l z =
      let B = before e.a t.a in
      let C = lt_z e.a.x.0 t.b.x.0 in
      let early = when_false (before? e.a t.a) (not_true B (and_l (not B) C l)) in
      let a : alive e.a.x.0 t ≡ true = begun e.a.x.0 t (is_false (λ h. early (by_x (record { lt = h })))) ∙ and_r (not B) C l in
      rw a (by_height z)
