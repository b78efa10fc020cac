-- Order and equality of polynomials, linear in their monomials: what `omega zz` does for sums, for terms with products of variables. Each fact is read by `search`
-- as for `ring`, and becomes a fact of ℕ about the halves of the monomials, which omega combines:
--     out≤ ρ (search reads ..) (omega (arith, in≤ ρ (search reads ..) h, in< ρ (search reads ..) k)) : a ≤ℤ b
-- with ρ one list of variables for all. A monomial is an atom: where its sign matters, bring it in, `in≤ ρ (..) (mul_nonneg p q)`.
use Rattle.std.specs.Prelude.{◌≡◌, refl, List, [], ◌∷◌, zero, suc, ◌+◌, ◌<◌, ◌≤◌, ℤ, pos, negsuc, ◌+ℤ◌, ◌-ℤ◌, ◌*ℤ◌, ◌≤ℤ◌, ◌<ℤ◌}
use Rattle.std.proofs.Common.{arith}
use Rattle.whole.specs.Order.{up, dn, zz, add_is, sub_is, mul_is}
use Rattle.whole.specs.Ring.{Pol, con, ◌▹◌, ev, Both, diff, reads}
use Rattle.whole.proofs.RingLaws.{ring, diff-sound}
use Rattle.whole.specs.Compare.{LD, LU, Mon, by, coef_d, coef_u, val, unit, at}

coef_is : (c m : ℤ) → up (c *ℤ m) + coef_d c m ≡ coef_u c m + dn (c *ℤ m)
coef_is (pos zero) m = omega (arith, mul_is (pos zero) m)
coef_is (pos (suc n)) m = omega (arith, mul_is (pos (suc n)) m)
coef_is (negsuc n) m = omega (arith, mul_is (negsuc n) m)

split_up : (p q x m : ℤ) → (p +ℤ x *ℤ q) *ℤ m ≡ p *ℤ m +ℤ q *ℤ (m *ℤ x)
split_up p q x m = ring (p ∷ q ∷ x ∷ m ∷ []) (search reads depth 20 fits 5000) tt

by_one : (x : ℤ) → pos 1 *ℤ x ≡ x
by_one x = ring (x ∷ []) (search reads depth 20 fits 5000) tt

val_by : (m : Mon) (x : ℤ) → val m *ℤ x ≡ val (by m x)
val_by unit x = by_one x
val_by (at m) x = refl

lin_is : (p : Pol) (ρ : List ℤ) (m : Mon) → up (ev p ρ *ℤ val m) + LD p ρ m ≡ LU p ρ m + dn (ev p ρ *ℤ val m)
lin_is (con c) ρ m = coef_is c (val m)
lin_is (p ▹ q) [] m = lin_is p [] m
lin_is (p ▹ q) (x ∷ ρ) m =
    rw (split_up (ev p ρ) (ev q (x ∷ ρ)) x (val m), val_by m x)
    (omega (arith, add_is (ev p ρ *ℤ val m) (ev q (x ∷ ρ) *ℤ val (by m x)), lin_is p ρ m, lin_is q (x ∷ ρ) (by m x)))

one_by : (x : ℤ) → x *ℤ pos 1 ≡ x
one_by x = ring (x ∷ []) (search reads depth 20 fits 5000) tt

-- ---- b - a over the monomials: a hypothesis brought in, a goal turned

fact : (ρ : List ℤ) {a b : ℤ} (r : Both ρ b a) → up (b -ℤ a) + LD (diff r) ρ unit ≡ LU (diff r) ρ unit + dn (b -ℤ a)
fact ρ r = rw (diff-sound r, ← (one_by (ev (diff r) ρ))) (lin_is (diff r) ρ unit)

pub in≤ : (ρ : List ℤ) {a b : ℤ} (r : Both ρ b a) → a ≤ℤ b → LD (diff r) ρ unit ≤ LU (diff r) ρ unit
in≤ ρ {a} {b} r h = omega (zz, fact ρ r, sub_is b a)

pub in< : (ρ : List ℤ) {a b : ℤ} (r : Both ρ b a) → a <ℤ b → LD (diff r) ρ unit < LU (diff r) ρ unit
in< ρ {a} {b} r h = omega (zz, fact ρ r, sub_is b a)

pub in≡ : (ρ : List ℤ) {a b : ℤ} (r : Both ρ b a) → a ≡ b → LD (diff r) ρ unit ≡ LU (diff r) ρ unit
in≡ ρ {a} {b} r h = omega (zz, fact ρ r, sub_is b a)

pub out≤ : (ρ : List ℤ) {a b : ℤ} (r : Both ρ b a) → LD (diff r) ρ unit ≤ LU (diff r) ρ unit → a ≤ℤ b
out≤ ρ {a} {b} r h = omega (zz, fact ρ r, sub_is b a)

pub out< : (ρ : List ℤ) {a b : ℤ} (r : Both ρ b a) → LD (diff r) ρ unit < LU (diff r) ρ unit → a <ℤ b
out< ρ {a} {b} r h = omega (zz, fact ρ r, sub_is b a)

pub out≡ : (ρ : List ℤ) {a b : ℤ} (r : Both ρ b a) → LD (diff r) ρ unit ≡ LU (diff r) ρ unit → a ≡ b
out≡ ρ {a} {b} r h = omega (zz, fact ρ r, sub_is b a)
