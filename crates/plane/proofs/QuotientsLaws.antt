-- The two quotients of document 01's "Middle point" as functions: cut toward zero is `quot_z`, to nearest with a half away from zero is `nearest`.
-- Both meet their rules, so both are less than 1 off. A fraction and the same one reduced are cut to the same number.
use Rattle.std.specs.Prelude.{◌≡◌, refl, [], ◌∷◌, ◌≢◌, ℕ, zero, suc, ◌+◌, ◌*◌, ◌/◌, ◌%◌, ◌<◌, ◌≤◌, ℤ, pos, negsuc, neg_ℤ, ◌+ℤ◌, ◌*ℤ◌, ◌≤ℤ◌, ◌<ℤ◌}
use Rattle.std.proofs.Common.{sym, ◌∙◌, ap, ap₂, ⊎_elim, div-add-mod', mod-lt, div-lt_iff_lt-mul, arith}
use Rattle.std.specs.Int.Signed.{quot_z}
use Rattle.whole.specs.Order.{zz, add_is, neg_is}
use Rattle.whole.specs.Ring.{reads}
use Rattle.whole.proofs.RingLaws.{ring}
use Rattle.whole.specs.Sign.{Tri, less, same, more}
use Rattle.whole.proofs.SignLaws.{tri, mul_pos, nonneg_right, neg_right, zero_product}
use Rattle.plane.specs.Scaled.{scale-le, scale-lt}
use Rattle.plane.specs.Round.{Cut, Nearest, Rounded, over, under}
use Rattle.plane.proofs.RoundLaws.{cut-near, nearest-near, cut-one}
use Rattle.plane.specs.Quotients.{near, nearest}

half_way : (n d q r : ℕ) → q * (2 * d) + r ≡ 2 * n + d → r < 2 * d → (2 * n < 2 * (d * q) + d) × (2 * (d * q) ≤ 2 * n + d)
half_way n d q r e h = (omega arith, omega arith)

near_ways : (n d : ℕ) → 0 < d → (2 * n < 2 * (d * near n d) + d) × (2 * (d * near n d) ≤ 2 * n + d)
near_ways n d h = half_way n d (near n d) ((2 * n + d) % (2 * d)) (div-add-mod' (2 * n + d) (2 * d)) (mod-lt (2 * n + d) (omega arith))

twice_minus : (n : ℤ) → pos 2 *ℤ neg_ℤ n ≡ neg_ℤ (pos 2 *ℤ n)
twice_minus n = ring (n ∷ []) (search reads depth 20 fits 5000) tt

times_minus : (d q : ℤ) → d *ℤ neg_ℤ q ≡ neg_ℤ (d *ℤ q)
times_minus d q = ring (d ∷ q ∷ []) (search reads depth 20 fits 5000) tt

nearest_flip : {n d q : ℤ} → pos 0 <ℤ n → Nearest n d q → Nearest (neg_ℤ n) d (neg_ℤ q)
nearest_flip {n} {d} {q} p r = record { from_over = λ h. absurd (no h); from_under = λ _. both }
  where
    no : pos 0 ≤ℤ neg_ℤ n → ⊥
    no h = omega (zz, neg_is n)

    twice : pos 2 *ℤ (d *ℤ neg_ℤ q) ≡ neg_ℤ (pos 2 *ℤ (d *ℤ q))
    twice = ap (λ z. pos 2 *ℤ z) (times_minus d q) ∙ twice_minus (d *ℤ q)

    both : ((pos 2 *ℤ neg_ℤ n) ≤ℤ (pos 2 *ℤ (d *ℤ neg_ℤ q) +ℤ d)) × ((pos 2 *ℤ (d *ℤ neg_ℤ q)) <ℤ (pos 2 *ℤ neg_ℤ n +ℤ d))
    both =
        let t = r.from_over (omega zz) in
        rw (twice, twice_minus n)
        (go (pos 2 *ℤ n) (pos 2 *ℤ (d *ℤ q)) t.0 t.1)
      where
        go : (m k : ℤ) → m <ℤ (k +ℤ d) → k ≤ℤ (m +ℤ d) → (neg_ℤ m ≤ℤ (neg_ℤ k +ℤ d)) × (neg_ℤ k <ℤ (neg_ℤ m +ℤ d))
        go m k h l = (omega (zz, neg_is m, neg_is k, add_is k d, add_is m d, add_is (neg_ℤ k) d, add_is (neg_ℤ m) d), omega (zz, neg_is m, neg_is k, add_is k d, add_is m d, add_is (neg_ℤ k) d, add_is (neg_ℤ m) d))

near_nat : (n d : ℕ) → Nearest (pos n) (pos (suc d)) (pos (near n (suc d)))
near_nat n d = let w = near_ways n (suc d) (omega arith) in record { from_over = λ _. (omega zz, omega zz); from_under = λ h. absurd (no h) }
  where
    no : pos n <ℤ pos 0 → ⊥
    no h = omega zz

near-over : (n : ℤ) (d : ℕ) → Nearest n (pos (suc d)) (nearest n (pos (suc d)))
unfolding nearest
near-over (pos n) d = near_nat n d
near-over (negsuc n) d = nearest_flip {n = pos (suc n)} (omega zz) (near_nat (suc n) d)

near_none : (d : ℕ) → 0 < d → near 0 d ≡ 0
near_none d h =
    let l : (2 * 0 + d) / (2 * d) < 1 = (div-lt_iff_lt-mul {k = 2 * d} {x = 2 * 0 + d} {y = 1} (omega arith)).1 (omega arith) in
    omega arith

near-under : (n : ℤ) (d : ℕ) → nearest n (negsuc d) ≡ nearest (neg_ℤ n) (pos (suc d))
unfolding nearest
near-under (pos zero) d = rw (near_none (suc d) (omega arith))
near-under (pos (suc n)) d = refl
near-under (negsuc n) d = refl

pub rounded-nearest : (n k : ℤ) → k ≢ pos 0 → Rounded n k (nearest n k)
rounded-nearest n (pos zero) h = absurd (h refl)
rounded-nearest n (pos (suc d)) h = over (omega zz) (nearest-near (omega zz) (near-over n d))
rounded-nearest n (negsuc d) h = under (omega zz) (rw (near-under n d) (nearest-near (omega zz) (near-over (neg_ℤ n) d)))

-- ---- cut toward zero
cut_step : (n d q r : ℕ) → q * d + r ≡ n → r < d → (d * q ≤ n) × (n < d * q + d)
cut_step n d q r e h = (omega arith, omega arith)

cut_ways : (n d : ℕ) → 0 < d → (d * (n / d) ≤ n) × (n < d * (n / d) + d)
cut_ways n d h = cut_step n d (n / d) (n % d) (div-add-mod' n d) (mod-lt n h)

cut_flip : {n d q : ℤ} → pos 0 <ℤ n → Cut n d q → Cut (neg_ℤ n) d (neg_ℤ q)
cut_flip {n} {d} {q} p r = record { from_over = λ h. absurd (no h); from_under = λ _. both }
  where
    no : pos 0 ≤ℤ neg_ℤ n → ⊥
    no h = omega (zz, neg_is n)

    both : (neg_ℤ n ≤ℤ (d *ℤ neg_ℤ q)) × ((d *ℤ neg_ℤ q) <ℤ (neg_ℤ n +ℤ d))
    both =
        let t = r.from_over (omega zz) in
        (omega (zz, times_minus d q, neg_is n, neg_is (d *ℤ q)), omega (zz, times_minus d q, neg_is n, neg_is (d *ℤ q), add_is (neg_ℤ n) d, add_is (d *ℤ q) d))

cut_nat : (n d : ℕ) → Cut (pos n) (pos (suc d)) (pos (n / suc d))
cut_nat n d = let w = cut_ways n (suc d) (omega arith) in record { from_over = λ _. (omega zz, omega zz); from_under = λ h. absurd (no h) }
  where
    no : pos n <ℤ pos 0 → ⊥
    no h = omega zz

cut-over : (n : ℤ) (d : ℕ) → Cut n (pos (suc d)) (quot_z n (pos (suc d)))
cut-over (pos n) d = cut_nat n d
cut-over (negsuc n) d = cut_flip {n = pos (suc n)} (omega zz) (cut_nat (suc n) d)

none-cut : (d : ℕ) → 0 / suc d ≡ 0
none-cut d = omega (arith, cut_ways 0 (suc d) (omega arith))

cut-under : (n : ℤ) (d : ℕ) → quot_z n (negsuc d) ≡ quot_z (neg_ℤ n) (pos (suc d))
cut-under (pos zero) d = rw (none-cut d)
cut-under (pos (suc n)) d = refl
cut-under (negsuc n) d = refl

pub rounded-cut : (n k : ℤ) → k ≢ pos 0 → Rounded n k (quot_z n k)
rounded-cut n (pos zero) h = absurd (h refl)
rounded-cut n (pos (suc d)) h = over (omega zz) (cut-near (omega zz) (cut-over n d))
rounded-cut n (negsuc d) h = under (omega zz) (rw (cut-under n d) (cut-near (omega zz) (cut-over (neg_ℤ n) d)))

-- ---- a fraction reduced by w is cut to the same number
over_any : (w k q : ℤ) → (w *ℤ k) *ℤ q ≡ w *ℤ (k *ℤ q)
over_any w k q = ring (w ∷ k ∷ q ∷ []) (search reads depth 20 fits 5000) tt

over-sum : (w p q : ℤ) → w *ℤ (p +ℤ q) ≡ w *ℤ p +ℤ w *ℤ q
over-sum w p q = ring (w ∷ p ∷ q ∷ []) (search reads depth 20 fits 5000) tt

cut-scaled : {n k q : ℤ} (w : ℤ) → pos 0 <ℤ w → Cut n k q → Cut (w *ℤ n) (w *ℤ k) q
cut-scaled {n} {k} {q} w wp c = record {
  from_over = λ h.
      let t = c.from_over (nonneg_right wp h) in
      omega (zz, scale-le w (omega zz) t.0, scale-lt w wp t.1, over_any w k q, over-sum w (k *ℤ q) k, add_is (w *ℤ (k *ℤ q)) (w *ℤ k), add_is ((w *ℤ k) *ℤ q) (w *ℤ k));
  from_under = λ h.
      let t = c.from_under (neg_right wp h) in
      omega (zz, scale-le w (omega zz) t.0, scale-lt w wp t.1, over_any w k q, over-sum w n k, add_is (w *ℤ n) (w *ℤ k));
}

cut_is : (n k : ℤ) → pos 0 <ℤ k → Cut n k (quot_z n k)
cut_is n (pos zero) h = let z : ⊥ = omega zz in absurd z
cut_is n (pos (suc k)) h = cut-over n k
cut_is n (negsuc k) h = let z : ⊥ = omega zz in absurd z

turn-over : (n k : ℤ) → pos 0 <ℤ k → quot_z n (neg_ℤ k) ≡ quot_z (neg_ℤ n) k
turn-over n (pos zero) h = let z : ⊥ = omega zz in absurd z
turn-over n (pos (suc k)) h = cut-under n k
turn-over n (negsuc k) h = let z : ⊥ = omega zz in absurd z

neg-neg : (a : ℤ) → neg_ℤ (neg_ℤ a) ≡ a
neg-neg a = ring (a ∷ []) (search reads depth 20 fits 5000) tt

both-turned : (n k : ℤ) → k ≢ pos 0 → quot_z (neg_ℤ n) (neg_ℤ k) ≡ quot_z n k
both-turned n k h = go (tri k (pos 0))
  where
    go : Tri k (pos 0) → quot_z (neg_ℤ n) (neg_ℤ k) ≡ quot_z n k
    go (less l) = sym (turn-over n (neg_ℤ k) (omega (zz, neg_is k))) ∙ ap (λ t. quot_z n t) (neg-neg k)
    go (same l) = absurd (h l)
    go (more l) = turn-over (neg_ℤ n) k l ∙ ap (λ t. quot_z t k) (neg-neg n)

-- w k over 0: Cut settles the number. Otherwise the signs of both are turned first
reduced_over : (n w k : ℤ) → pos 0 <ℤ w → pos 0 <ℤ k → quot_z (w *ℤ n) (w *ℤ k) ≡ quot_z n k
reduced_over n w k wp kp = cut-one (mul_pos wp kp) (cut_is (w *ℤ n) (w *ℤ k) (mul_pos wp kp)) (cut-scaled w wp (cut_is n k kp))

neg-times : (w k : ℤ) → neg_ℤ w *ℤ k ≡ neg_ℤ (w *ℤ k)
neg-times w k = ring (w ∷ k ∷ []) (search reads depth 20 fits 5000) tt

product_some : (w k : ℤ) → w ≢ pos 0 → k ≢ pos 0 → w *ℤ k ≢ pos 0
product_some w k h l e = ⊎_elim h l (zero_product w k e)

reduced_right : (n w k : ℤ) → pos 0 <ℤ w → k ≢ pos 0 → quot_z (w *ℤ n) (w *ℤ k) ≡ quot_z n k
reduced_right n w k wp h = go (tri k (pos 0))
  where
    go : Tri k (pos 0) → quot_z (w *ℤ n) (w *ℤ k) ≡ quot_z n k
    go (less l) =
        sym (both-turned (w *ℤ n) (w *ℤ k) (product_some w k (omega zz) h)) ∙ ap₂ quot_z (sym (times_minus w n)) (sym (times_minus w k))
        ∙ reduced_over (neg_ℤ n) w (neg_ℤ k) wp (omega (zz, neg_is k)) ∙ both-turned n k h
    go (same l) = absurd (h l)
    go (more l) = reduced_over n w k wp l

pub cut_reduced : (n w k : ℤ) → w ≢ pos 0 → k ≢ pos 0 → quot_z (w *ℤ n) (w *ℤ k) ≡ quot_z n k
cut_reduced n w k h l = go (tri w (pos 0))
  where
    go : Tri w (pos 0) → quot_z (w *ℤ n) (w *ℤ k) ≡ quot_z n k
    go (less m) =
        sym (both-turned (w *ℤ n) (w *ℤ k) (product_some w k h l)) ∙ ap₂ quot_z (sym (neg-times w n)) (sym (neg-times w k))
        ∙ reduced_right n (neg_ℤ w) k (omega (zz, neg_is w)) l
    go (same m) = absurd (h m)
    go (more m) = reduced_right n w k m l
