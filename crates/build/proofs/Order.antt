-- A list in order: each segment starts at or after those that stand before it. What is live at a later point was live at an earlier one, once it had begun.
use mathlib.Core.Path.{◌≡◌, refl, sym, ap, subst, ◌∙◌}
use mathlib.Core.Bool.{Bool, true, false, not, ◌&&◌}
use mathlib.Core.List.{List}
use mathlib.Core.Logic.{⊎_elim}
use Prim.Native.Nat.{ℕ, zero, suc, ◌+◌, ◌-◌, ◌≤◌, ◌<◌}
use native.Mathlib.Nat.{eq-or-lt_of_le}
use native.Mathlib.Numerals.{add-one}
use native.Mathlib.Omega.{arith}
use lib.IntN.{ℤ}
use lib.Signed.{lt_z, ◌≤ℤ◌, ◌<ℤ◌}
use Rattle.whole.specs.Kind.{rows_from}
use Rattle.whole.specs.Order.{zz}
use Rattle.whole.specs.Test.{lt-true}
use Rattle.whole.proofs.TestLaws.{and_l, and_r, lt_of}
use Rattle.geom.specs.declared.Point.{Point}
use Rattle.geom.specs.declared.Segment.{Segment}
use Rattle.geom.specs.Order.{Order, sooner, equal, later, order, before-trans, before_irr}
use Rattle.geom.specs.Plane.{Before, by_x, by_y, before, same_point}
use Rattle.geom.specs.Rows.{segments}
use Rattle.geom.specs.Tests.{holds, fails, when_false}
use Rattle.geom.proofs.TestsLaws.{before?, same_point?}
use Rattle.edges.specs.Below.{live}
use Rattle.scan.specs.Scan.{segment_at}
use Rattle.build.specs.Sweep.{ordered}

-- ---- points

pub data Upto (p q : Point) : Type 0 where
  ahead : Before p q → Upto p q
  here : p ≡ q → Upto p q

pub upto : (p q : Point) → before q p ≡ false → Upto p q
upto p q e = go (order p q)
  where
    go : Order p q → Upto p q
    go (sooner h) = ahead h
    go (equal h) = here h
    go (later h) = absurd (when_false (before? q p) e h)

pub upto-trans : {p q r : Point} → Upto p q → Upto q r → Upto p r
upto-trans (ahead h) (ahead k) = ahead (before-trans h k)
upto-trans {p} (ahead h) (here e) = ahead (subst (Before p) e h)
upto-trans {r} (here e) k = subst (λ (x : Point). Upto x r) (sym e) k

pub before-upto : {p q r : Point} → Before p q → Upto q r → Before p r
before-upto h (ahead k) = before-trans h k
before-upto {p} h (here e) = subst (Before p) e h

pub strictly : {p q : Point} → Upto p q → same_point p q ≡ false → Before p q
strictly (ahead h) e = h
strictly {p} {q} (here h) e = absurd (when_false (same_point? p q) e h)

upto_x : {p q : Point} → Upto p q → p.x.0 ≤ℤ q.x.0
upto_x (ahead (by_x h)) = omega zz
upto_x (ahead (by_y e h)) = omega zz
upto_x (here e) = omega (zz, ap (λ (p : Point). p.x.0) e)

-- ---- live

pub not_yet : (p : Point) (t : Segment) → Before p t.a → live p t ≡ false
unfolding live
not_yet p t h = rw (holds (before? p t.a) h)

pub still : (p q : Point) (t : Segment) → Upto t.a q → Upto q p → live p t ≡ true → live q t ≡ true
unfolding live
still p q t b u e =
    let h : p.x.0 <ℤ t.b.x.0 = lt_of (and_r (not (before p t.a)) (lt_z p.x.0 t.b.x.0) e) in
    let k : q.x.0 <ℤ t.b.x.0 = omega (zz, upto_x u) in
    rw (fails (before? q t.a) (λ n. before_irr (before-upto n b)), lt-true k)

-- ---- lists

not_true : {b : Bool} → not b ≡ true → b ≡ false
not_true {b = true} e = sym e
not_true {b = false} e = refl

pub record Sorted (work : List ℤ) (n : ℕ) : Type 0 where
  pub each : (i j : ℕ) → i ≤ j → j < n → Upto (segment_at work i).a (segment_at work j).a

module _ (work : List ℤ) where
  neighbour : (i k : ℕ) → ordered (rows_from segments work i k) ≡ true → (m : ℕ) → i ≤ m → m + 1 < i + k → before (segment_at work (m + 1)).a (segment_at work m).a ≡ false
  unfolding ordered rows_from
  neighbour i zero o m h q = let z : ⊥ = omega arith in absurd z
  neighbour i (suc zero) o m h q = let z : ⊥ = omega arith in absurd z
  neighbour i (suc (suc k)) o m h q =
      let first = not (before (segment_at work (suc i)).a (segment_at work i).a) in
      let rest = ordered (rows_from segments work (suc i) (suc k)) in
      ⊎_elim
      (λ e. rw (← e, add-one i) (not_true (and_l first rest o)))
      (λ l. neighbour (suc i) (suc k) (and_r first rest o) m l (omega arith))
      (eq-or-lt_of_le h)

  pub in_order : (n : ℕ) → ordered (rows_from segments work 0 n) ≡ true → Sorted work n
  in_order n o = record { each = λ i j h q. let e : i + (j - i) ≡ j = omega arith in rw e at (chain i (j - i) (rw e q)) }
    where
      chain : (i d : ℕ) → i + d < n → Upto (segment_at work i).a (segment_at work (i + d)).a
      chain i zero q = let e : i + 0 ≡ i = omega arith in rw e (here refl)
      chain i (suc d) q =
          let e : i + suc d ≡ (i + d) + 1 = omega arith in
          let k = i + d in
          rw e (upto-trans (chain i d (omega arith)) (upto (segment_at work k).a (segment_at work (k + 1)).a (neighbour 0 n o k (omega arith) (omega arith))))

  first-pair : (i k : ℕ) → ordered (rows_from segments work i (suc (suc k))) ≡ (not (before (segment_at work (suc i)).a (segment_at work i).a) && ordered (rows_from segments work (suc i) (suc k)))
  unfolding ordered rows_from
  first-pair i k = refl

  -- one segment after the other, in a loop from 1 to n
  pub order-step : (n i : ℕ) → 1 ≤ i → i < n → ordered (rows_from segments work (i - 1) (n - (i - 1))) ≡ (not (before (segment_at work i).a (segment_at work (i - 1)).a) && ordered (rows_from segments work i (n - i)))
  order-step n i h q =
      let a : n - (i - 1) ≡ suc (suc (n - suc i)) = omega arith in
      let b : suc (i - 1) ≡ i = omega arith in
      let c : n - i ≡ suc (n - suc i) = omega arith in
      rw (a, c)
      (first-pair (i - 1) (n - suc i)
      ∙ ap (λ (j : ℕ). not (before (segment_at work j).a (segment_at work (i - 1)).a) && ordered (rows_from segments work j (suc (n - suc i)))) b)

  pub order-done : (n i : ℕ) → 1 ≤ i → n ≤ i → ordered (rows_from segments work (i - 1) (n - (i - 1))) ≡ true
  unfolding ordered rows_from
  order-done n i h q = go (n - (i - 1)) (omega arith)
    where
      go : (k : ℕ) → k ≤ 1 → ordered (rows_from segments work (i - 1) k) ≡ true
      go zero l = refl
      go (suc zero) l = refl
      go (suc (suc k)) l = let z : ⊥ = omega arith in absurd z
