-- Rounding. q is near n/d if it is less than 1 from it: then a fraction between two whole numbers stays between them when rounded.
-- Cut toward zero, and to nearest with a half away from zero, are both near, and each rule settles its q.
use Rattle.std.specs.Prelude.{◌≡◌, [], ◌∷◌, ℤ, pos, neg_ℤ, ◌+ℤ◌, ◌*ℤ◌, ◌≤ℤ◌, ◌<ℤ◌}
use Rattle.std.proofs.Common.{sym, ◌∙◌, ap, ⊎_elim}
use Rattle.whole.specs.Order.{zz, add_is, neg_is, mul_is}
use Rattle.whole.specs.Ring.{reads}
use Rattle.whole.proofs.RingLaws.{ring}
use Rattle.whole.proofs.SignLaws.{lt_or_le}
use Rattle.plane.specs.Scaled.{scale-lt, unscale_lt}
use Rattle.plane.specs.Round.{Cut, Near, Nearest, Rounded, below, over, under}

pub cut-near : {n d q : ℤ} → pos 0 <ℤ d → Cut n d q → Near n d q
cut-near {n} {d} {q} h c = ⊎_elim
    (λ (l : n <ℤ pos 0). let t = c.from_under l in record { low = omega (zz, add_is (d *ℤ q) d); high = t.1 })
    (λ (l : pos 0 ≤ℤ n). let t = c.from_over l in record { low = t.1; high = omega (zz, add_is n d) })
    (lt_or_le n (pos 0))

nearest_near' : (n d m : ℤ) → pos 0 <ℤ d → (pos 2 *ℤ n) ≤ℤ (pos 2 *ℤ m +ℤ d) → (pos 2 *ℤ m) ≤ℤ (pos 2 *ℤ n +ℤ d) → (n <ℤ (m +ℤ d)) × (m <ℤ (n +ℤ d))
nearest_near' n d m h k l = omega (zz, mul_is (pos 2) n, mul_is (pos 2) m, add_is (pos 2 *ℤ m) d, add_is (pos 2 *ℤ n) d, add_is m d, add_is n d)

pub nearest-near : {n d q : ℤ} → pos 0 <ℤ d → Nearest n d q → Near n d q
nearest-near {n} {d} {q} h c = ⊎_elim
    (λ (l : n <ℤ pos 0). let t = c.from_under l in go (omega zz) (omega zz))
    (λ (l : pos 0 ≤ℤ n). let t = c.from_over l in go (omega zz) (omega zz))
    (lt_or_le n (pos 0))
  where
    go : (pos 2 *ℤ n) ≤ℤ (pos 2 *ℤ (d *ℤ q) +ℤ d) → (pos 2 *ℤ (d *ℤ q)) ≤ℤ (pos 2 *ℤ n +ℤ d) → Near n d q
    go k l = let t = nearest_near' n d (d *ℤ q) h k l in record { low = t.0; high = t.1 }

pub near-between : {n d q : ℤ} (lo hi : ℤ) → pos 0 <ℤ d → Near n d q → (d *ℤ lo) ≤ℤ n → n ≤ℤ (d *ℤ hi) → (lo ≤ℤ q) × (q ≤ℤ hi)
near-between {n} {d} {q} lo hi h r k l = (below d lo q h (omega (zz, r.low)), below d q hi h (omega (zz, r.high, add_is n d, add_is (d *ℤ hi) d)))

-- ---- each settles q
pub cut-one : {n d q r : ℤ} → pos 0 <ℤ d → Cut n d q → Cut n d r → q ≡ r
cut-one {n} {d} {q} {r} h c e = ⊎_elim
    (λ (l : n <ℤ pos 0). let s = c.from_under l in let t = e.from_under l in both (omega (zz, add_is n d, add_is (d *ℤ r) d)) (omega (zz, add_is n d, add_is (d *ℤ q) d)))
    (λ (l : pos 0 ≤ℤ n). let s = c.from_over l in let t = e.from_over l in both (omega zz) (omega zz))
    (lt_or_le n (pos 0))
  where
    both : (d *ℤ q) <ℤ (d *ℤ r +ℤ d) → (d *ℤ r) <ℤ (d *ℤ q +ℤ d) → q ≡ r
    both k l = omega (zz, below d q r h k, below d r q h l)

half_lt : (n d m k : ℤ) → (pos 2 *ℤ m) ≤ℤ (pos 2 *ℤ n +ℤ d) → (pos 2 *ℤ n) <ℤ (pos 2 *ℤ k +ℤ d) → m <ℤ (k +ℤ d)
half_lt n d m k h l = omega (zz, mul_is (pos 2) n, mul_is (pos 2) m, mul_is (pos 2) k, add_is (pos 2 *ℤ n) d, add_is (pos 2 *ℤ k) d, add_is k d)

lt_half : (n d m k : ℤ) → (pos 2 *ℤ m) <ℤ (pos 2 *ℤ n +ℤ d) → (pos 2 *ℤ n) ≤ℤ (pos 2 *ℤ k +ℤ d) → m <ℤ (k +ℤ d)
lt_half n d m k h l = omega (zz, mul_is (pos 2) n, mul_is (pos 2) m, mul_is (pos 2) k, add_is (pos 2 *ℤ n) d, add_is (pos 2 *ℤ k) d, add_is k d)

pub nearest-one : {n d q r : ℤ} → pos 0 <ℤ d → Nearest n d q → Nearest n d r → q ≡ r
nearest-one {n} {d} {q} {r} h c e = ⊎_elim
    (λ (l : n <ℤ pos 0). let s = c.from_under l in let t = e.from_under l in both (lt_half n d (d *ℤ q) (d *ℤ r) s.1 t.0) (lt_half n d (d *ℤ r) (d *ℤ q) t.1 s.0))
    (λ (l : pos 0 ≤ℤ n). let s = c.from_over l in let t = e.from_over l in both (half_lt n d (d *ℤ q) (d *ℤ r) s.1 t.0) (half_lt n d (d *ℤ r) (d *ℤ q) t.1 s.0))
    (lt_or_le n (pos 0))
  where
    both : (d *ℤ q) <ℤ (d *ℤ r +ℤ d) → (d *ℤ r) <ℤ (d *ℤ q +ℤ d) → q ≡ r
    both k l = omega (zz, below d q r h k, below d r q h l)

-- ---- n/k and m/d are one fraction
pub near_same : {n k m d q : ℤ} → pos 0 <ℤ k → pos 0 <ℤ d → d *ℤ n ≡ k *ℤ m → Near n k q → Near m d q
near_same {n} {k} {m} {d} {q} kp dp e r = record {
  low = unscale_lt k kp (omega (zz, scale-lt d dp r.low, left k d q));
  high = unscale_lt k kp (omega (zz, scale-lt d dp r.high, right, add_is (k *ℤ m) (k *ℤ d), add_is (d *ℤ n) (k *ℤ d), mid));
}
  where
    left : (k d q : ℤ) → d *ℤ (k *ℤ q +ℤ k) ≡ k *ℤ (d *ℤ q +ℤ d)
    left k d q = ring (k ∷ d ∷ q ∷ []) (search reads depth 20 fits 5000) tt

    right : d *ℤ (n +ℤ k) ≡ d *ℤ n +ℤ k *ℤ d
    right = ring (d ∷ n ∷ k ∷ []) (search reads depth 20 fits 5000) tt

    mid : (k *ℤ (m +ℤ d) ≡ k *ℤ m +ℤ k *ℤ d) × (d *ℤ (k *ℤ q) ≡ k *ℤ (d *ℤ q))
    mid = (ring (d ∷ m ∷ k ∷ []) (search reads depth 20 fits 5000) tt, ring (d ∷ q ∷ k ∷ []) (search reads depth 20 fits 5000) tt)

minus_both : (k m d n : ℤ) → k *ℤ m ≡ d *ℤ n → d *ℤ neg_ℤ n ≡ neg_ℤ k *ℤ m
minus_both k m d n e = left ∙ ap neg_ℤ (sym e) ∙ right
  where
    left : d *ℤ neg_ℤ n ≡ neg_ℤ (d *ℤ n)
    left = ring (d ∷ n ∷ []) (search reads depth 20 fits 5000) tt

    right : neg_ℤ (k *ℤ m) ≡ neg_ℤ k *ℤ m
    right = ring (k ∷ m ∷ []) (search reads depth 20 fits 5000) tt

pub rounded-near : {n k m d q : ℤ} → pos 0 <ℤ d → k *ℤ m ≡ d *ℤ n → Rounded n k q → Near m d q
rounded-near dp e (over h r) = near_same h dp (sym e) r
rounded-near {n} {k} {m} {d} dp e (under h r) = near_same (omega (zz, neg_is k)) dp (minus_both k m d n e) r
