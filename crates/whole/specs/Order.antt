-- The order of whole numbers through `omega`, which reads natural numbers only. A whole number z is `up z - dn z`, and one of the two is 0; so a fact of ℤ
-- is a linear fact of these halves. With the ruleset `zz` omega makes that step by itself, for what is known and for the goal:
--     omega (zz, add_is a b, sub_is c d) : (a +ℤ b) ≤ℤ (c -ℤ d)
-- Each compound term wants its own fact in the list, one for each operation in it: `add_is`, `sub_is`, `neg_is`, `mul_is`. A product of two variables is
-- an atom here; module Sign has its sign, Ring its identities, Compare both at once. A refusal names the term whose fact is missing.
-- Bounds: `mag_in z` reads `mag z < n`; `mag_out` and `sfits_out` prove such a bound. Code: the ruleset `zc` is `zz` with the outcome of a test and
-- a local's bits. The laws `lt-true` .. `le-false` here go from the outcome of a test to a fact for omega; those of module Test go from a fact to the outcome.
use Rattle.std.specs.Prelude.{◌≡◌, refl, ◌≢◌, Bool, true, false, not, cond, ℕ, zero, suc, ◌+◌, ◌*◌, ◌-◌, ◌<◌, ◌≤◌, ◌^◌, min, pred, T, ltb, ℤ, pos, negsuc, neg_ℤ, ◌+ℤ◌, ◌-ℤ◌, ◌*ℤ◌, ◌≤ℤ◌, ◌<ℤ◌}
use Rattle.std.proofs.Common.{sym, ◌∙◌, ap, subst, arith, ltb→lt, nltb→le, leb→le, le→leb, lt→ltb}
use Rattle.std.proofs.Math.Dec.{nleb→lt}
use Rattle.std.proofs.Math.IntN.{sub_ℕ}
use Rattle.std.specs.Int.Signed.{mag, lt_z, le_z, lt_z_no}
use Rattle.std.specs.Int.{Width}
use mir.Val.{SFits, to_z, of_z, hbits}
use Rattle.std.proofs.lemmas.Int.{to_z-of_z}

-- ---- the two halves

abbrev pub up : ℤ → ℕ
up (pos n) = n
up (negsuc n) = 0

abbrev pub dn : ℤ → ℕ
dn (pos n) = 0
dn (negsuc n) = suc n

-- one of them is 0
pub split : (a : ℤ) → min (up a) (dn a) ≡ 0
split (pos a) = omega arith
split (negsuc a) = omega arith

-- ---- facts of ℤ as facts of the halves, and back

pub le_in : {a b : ℤ} → a ≤ℤ b → up a + dn b ≤ up b + dn a
le_in {a = pos a} {b = pos b} h = omega (arith, leb→le a b h.le)
le_in {a = pos a} {b = negsuc b} h = absurd h.le
le_in {a = negsuc a} {b = pos b} h = omega arith
le_in {a = negsuc a} {b = negsuc b} h = omega (arith, leb→le b a h.le)

pub lt_in : {a b : ℤ} → a <ℤ b → up a + dn b < up b + dn a
lt_in {a = pos a} {b = pos b} h = omega (arith, ltb→lt a b h.lt)
lt_in {a = pos a} {b = negsuc b} h = absurd h.lt
lt_in {a = negsuc a} {b = pos b} h = omega arith
lt_in {a = negsuc a} {b = negsuc b} h = omega (arith, ltb→lt b a h.lt)

pub eq_in : {a b : ℤ} → a ≡ b → up a + dn b ≡ up b + dn a
eq_in e = rw e refl

pub le_out : {a b : ℤ} → up a + dn b ≤ up b + dn a → a ≤ℤ b
le_out {a = pos a} {b = pos b} h = record { le = le→leb a b (omega arith) }
le_out {a = pos a} {b = negsuc b} h = let z : ⊥ = omega arith in absurd z
le_out {a = negsuc a} {b = pos b} h = record { le = tt }
le_out {a = negsuc a} {b = negsuc b} h = record { le = le→leb b a (omega arith) }

pub lt_out : {a b : ℤ} → up a + dn b < up b + dn a → a <ℤ b
lt_out {a = pos a} {b = pos b} h = record { lt = lt→ltb a b (omega arith) }
lt_out {a = pos a} {b = negsuc b} h = let z : ⊥ = omega arith in absurd z
lt_out {a = negsuc a} {b = pos b} h = record { lt = tt }
lt_out {a = negsuc a} {b = negsuc b} h = record { lt = lt→ltb b a (omega arith) }

pub eq_out : {a b : ℤ} → up a + dn b ≡ up b + dn a → a ≡ b
eq_out {a = pos a} {b = pos b} h = ap pos (omega arith)
eq_out {a = pos a} {b = negsuc b} h = let z : ⊥ = omega arith in absurd z
eq_out {a = negsuc a} {b = pos b} h = let z : ⊥ = omega arith in absurd z
eq_out {a = negsuc a} {b = negsuc b} h = ap negsuc (omega arith)

pub ruleset zz = (arith, le_in, lt_in, eq_in, le_out, lt_out, eq_out)

-- what is not so: hand these to omega, `omega (zz, nle_in h)`
pub ne_in : {a b : ℤ} → (a ≡ b → ⊥) → up a + dn b ≢ up b + dn a
ne_in f e = f (eq_out e)

pub ne_out : {a b : ℤ} → up a + dn b ≢ up b + dn a → a ≡ b → ⊥
ne_out f e = f (eq_in e)

pub nle_in : {a b : ℤ} → (a ≤ℤ b → ⊥) → up b + dn a < up a + dn b
nle_in {a} {b} f = let g : ¬ (up a + dn b ≤ up b + dn a) = λ h. f (le_out h) in omega arith

pub nlt_in : {a b : ℤ} → (a <ℤ b → ⊥) → up b + dn a ≤ up a + dn b
nlt_in {a} {b} f = let g : ¬ (up a + dn b < up b + dn a) = λ h. f (lt_out h) in omega arith

-- ---- what the operations come to

by_test : (c : Bool) (x y : ℤ) (P : ℤ → Type 0) → (T c → P x) → (T (not c) → P y) → P (cond c x y)
by_test true x y P f g = f tt
by_test false x y P f g = g tt

subℕ_is : (p q : ℕ) → up (sub_ℕ p q) + q ≡ p + dn (sub_ℕ p q)
subℕ_is p q =
    by_test
    (ltb p q)
    (negsuc (q - suc p))
    (pos (p - q))
    (λ z. up z + q ≡ p + dn z)
    (λ t. let h : p < q = ltb→lt p q t in omega arith)
    (λ t. let h : q ≤ p = nltb→le p q t in omega arith)

pub add_is : (a b : ℤ) → up (a +ℤ b) + (dn a + dn b) ≡ up a + up b + dn (a +ℤ b)
add_is (pos a) (pos b) = omega arith
add_is (pos a) (negsuc b) = omega (arith, subℕ_is a (suc b))
add_is (negsuc a) (pos b) = omega (arith, subℕ_is b (suc a))
add_is (negsuc a) (negsuc b) = omega arith

pub neg_is : (a : ℤ) → (up (neg_ℤ a) ≡ dn a) × (dn (neg_ℤ a) ≡ up a)
neg_is (pos zero) = (refl, refl)
neg_is (pos (suc n)) = (refl, refl)
neg_is (negsuc n) = (refl, refl)

pub sub_is : (a b : ℤ) → up (a -ℤ b) + (dn a + up b) ≡ up a + dn b + dn (a -ℤ b)
sub_is a b = omega (arith, add_is a (neg_ℤ b), neg_is b)

pub mul_is : (a b : ℤ) → up (a *ℤ b) + (up a * dn b + dn a * up b) ≡ up a * up b + dn a * dn b + dn (a *ℤ b)
mul_is (pos a) (pos b) = omega arith
mul_is (pos a) (negsuc b) = omega (arith, neg_is (pos (a * suc b)))
mul_is (negsuc a) (pos b) = omega (arith, neg_is (pos (suc a * b)))
mul_is (negsuc a) (negsuc b) = omega arith

-- ---- the magnitude, by which a width bounds a number: mag z < n says -n ≤ z < n

pub mag_is : (a : ℤ) → mag a ≡ up a + pred (dn a)
mag_is (pos a) = omega arith
mag_is (negsuc a) = omega arith

-- with no case split for omega: from a bound, and to one
pub mag_in : (a : ℤ) → (up a ≤ mag a) × (dn a ≤ suc (mag a))
mag_in (pos a) = omega arith
mag_in (negsuc a) = omega arith

pub mag_out : (a : ℤ) {h : ℕ} → up a < dn a + h → dn a ≤ up a + h → mag a < h
mag_out (pos a) p q = omega arith
mag_out (negsuc a) p q = omega arith

pub sfits_out : {w : Width} (z : ℤ) → up z < dn z + 2 ^ hbits w → dn z ≤ up z + 2 ^ hbits w → SFits w z
sfits_out z p q = record { sfits = mag_out z p q }

-- ---- what code gives: the outcome of a test, and a signed local read back from its bits

pub lt-true : (a b : ℤ) → lt_z a b ≡ true → up a + dn b < up b + dn a
lt-true a b e = lt_in {a = a} {b = b} (record { lt = subst T (sym e) tt })

pub le-true : (a b : ℤ) → le_z a b ≡ true → up a + dn b ≤ up b + dn a
le-true a b e = le_in {a = a} {b = b} (record { le = subst T (sym e) tt })

pub lt-false : (a b : ℤ) → lt_z a b ≡ false → up b + dn a ≤ up a + dn b
lt-false a b e = le_in {a = b} {b = a} (lt_z_no {a = a} {b = b} (subst (λ (t : Bool). T (not t)) (sym e) tt))

not_le : (a b : ℤ) → T (not (le_z a b)) → up b + dn a < up a + dn b
not_le (pos a) (pos b) t = omega (arith, nleb→lt a b t)
not_le (pos a) (negsuc b) t = omega arith
not_le (negsuc a) (pos b) t = absurd t
not_le (negsuc a) (negsuc b) t = omega (arith, nleb→lt b a t)

pub le-false : (a b : ℤ) → le_z a b ≡ false → up b + dn a < up a + dn b
le-false a b e = not_le a b (subst (λ (t : Bool). T (not t)) (sym e) tt)

pub read_back : {w : Width} {z : ℤ} → SFits w z → up (to_z w (of_z w z)) + dn z ≡ up z + dn (to_z w (of_z w z))
read_back {w} {z} h = eq_in (to_z-of_z w z h)

pub ruleset zc = (zz, lt-true, le-true, lt-false, le-false, read_back)

-- `==` of two signed numbers is a fact of their bits
pub bits_eq : {w : Width} {a b : ℤ} → SFits w a → SFits w b → of_z w a ≡ of_z w b → a ≡ b
bits_eq {w} {a} {b} p q e = sym (to_z-of_z w a p) ∙ ap (λ (n : ℕ). to_z w n) e ∙ to_z-of_z w b q

-- ---- the laws of a ring that lib.IntN lacks, from which module Ring has all others

pub mul-add : (a b c : ℤ) → a *ℤ (b +ℤ c) ≡ a *ℤ b +ℤ a *ℤ c
mul-add a b c =
    let s = add_is b c in
    eq_out
    (omega (arith, mul_is a (b +ℤ c), mul_is a b, mul_is a c, add_is (a *ℤ b) (a *ℤ c), ap (λ t. up a * t) s, ap (λ t. dn a * t) s))

pub mul_assoc : (a b c : ℤ) → (a *ℤ b) *ℤ c ≡ a *ℤ (b *ℤ c)
mul_assoc a b c =
    let l = mul_is a b in
    let r = mul_is b c in
    eq_out
    (omega (arith, mul_is (a *ℤ b) c, mul_is a (b *ℤ c), ap (λ t. up a * t) r, ap (λ t. dn a * t) r, ap (λ t. up c * t) l, ap (λ t. dn c * t) l))
