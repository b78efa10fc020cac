-- A share n / d of a below 2^31. n * a and half of d are together h * 2^32 + l with h below half of d, so their quotient is one digit below 2^31. Where h is not below
-- 2^32, neither is d, so the factor that raises d is, and l times the factor fits a word.
use mathlib.Core.Path.{◌≡◌, ap}
use Prim.Native.Nat.{ℕ, ◌+◌, ◌-◌, ◌*◌, ◌/◌, ◌^◌, ◌≤◌, ◌<◌}
use native.Mathlib.Nat.{div-add-mod', div-mul-le_self, lt-div-mul-add, mul-le-mul, mul-lt-mul_of_pos_right}
use native.Mathlib.Omega.{arith}
use Rattle.limbs.specs.Limbs.{rounded_of}
use Rattle.limbs.specs.Nearest.{nearest-rounded}
use Rattle.limbs.proofs.Words.{upper, lower}
use Rattle.quotients.proofs.Long.{Raises}

-- the nearest quotient is the cut one with half the divisor added
pub half_added : (n d : ℕ) → 0 < d → rounded_of n d ≡ (n + d / 2) / d
half_added n d h =
    let e = div-mul-le_self (n + d / 2) d in
    let f = lt-div-mul-add {a = n + d / 2} {b = d} h in
    nearest-rounded (record { above = omega arith; below = omega arith })

-- ---- the number that is divided

-- a product of two numbers below 2^32 leaves room for two carries
pub room : (x y : ℕ) → x < 2 ^ 32 → y < 2 ^ 32 → x * y ≤ (2 ^ 32 - 1) * (2 ^ 32 - 1)
room x y h k = mul-le-mul {n₂ = 2 ^ 32 - 1} {m₂ = 2 ^ 32 - 1} (omega arith) (omega arith)

-- a number and its halves, times a
spread : (n a : ℕ) → upper n * a * 2 ^ 32 + lower n * a ≡ n * a
spread n a = let e : (upper n * 2 ^ 32 + lower n) * a ≡ n * a = ap (λ (x : ℕ). x * a) (div-add-mod' n (2 ^ 32)) in omega arith

carried : (x y : ℕ) {z : ℕ} → y * 2 ^ 32 + x ≡ z → (y + upper x) * 2 ^ 32 + lower x ≡ z
carried x y e = omega arith

-- what the code makes of n * a and half of d
abbrev pub first : ℕ → ℕ → ℕ → ℕ
first n d a = lower n * a + lower (d / 2)

abbrev pub high : ℕ → ℕ → ℕ → ℕ
high n d a = upper n * a + upper (d / 2) + upper (first n d a)

pub record Parts (n d a : ℕ) : Type 0 where
  pub sum : high n d a * 2 ^ 32 + lower (first n d a) ≡ n * a + d / 2
  pub small : 2 * (n * a + d / 2) < d * 2 ^ 32
  pub below : 2 * high n d a < d
  pub low_fits : lower n * a ≤ (2 ^ 32 - 1) * (2 ^ 32 - 1)
  pub high_fits : upper n * a ≤ (2 ^ 32 - 1) * (2 ^ 32 - 1)

pub parts : (n d a : ℕ) → n < 2 ^ 64 → 0 < d → n ≤ d → a < 2 ^ 31 → Parts n d a
parts n d a w p le k =
    let s : high n d a * 2 ^ 32 + lower (first n d a) ≡ n * a + d / 2 = carried (first n d a) (upper n * a + upper (d / 2)) (both (upper n * a) (lower n * a) (d / 2) (spread n a)) in
    let m : n * a ≤ d * (2 ^ 31 - 1) = mul-le-mul le (omega arith) in
    record {
      sum = s;
      small = omega arith;
      below = under (high n d a) (lower (first n d a)) (n * a) d s m p;
      low_fits = room (lower n) a (omega arith) (omega arith);
      high_fits = room (upper n) a (omega arith) (omega arith);
    }
  where
    both : (y x h : ℕ) {z : ℕ} → y * 2 ^ 32 + x ≡ z → (y + upper h) * 2 ^ 32 + (x + lower h) ≡ z + h
    both y x h e = omega arith

    under : (h l m d : ℕ) → h * 2 ^ 32 + l ≡ m + d / 2 → m ≤ d * (2 ^ 31 - 1) → 0 < d → 2 * h < d
    under h l m d e k p = omega arith

-- ---- raised by a factor

-- a divisor above 2^32 has a factor below
pub factor_short : {d f h : ℕ} → Raises d f → 2 ^ 32 ≤ h → 2 * h < d → f < 2 ^ 32
factor_short {d} {f} x k b =
    let m : 2 ^ 32 * f ≤ d * f = mul-le-mul {n₂ = d} {m₂ = f} (omega arith) (omega arith) in
    omega (arith, x.fits)

pub record Raised (m d f h l : ℕ) : Type 0 where
  pub sum : (h * f + upper (l * f)) * 2 ^ 32 + lower (l * f) ≡ m * f
  pub below : 2 * (h * f + upper (l * f)) < d * f

pub raised : {m d f h l : ℕ} → Raises d f → h * 2 ^ 32 + l ≡ m → 2 * m < d * 2 ^ 32 → Raised m d f h l
raised {m} {d} {f} {h} {l} x e k =
    let s : h * f * 2 ^ 32 + l * f ≡ m * f = let g = ap (λ (y : ℕ). y * f) e in omega arith in
    let t : 2 * m * f < d * 2 ^ 32 * f = mul-lt-mul_of_pos_right k x.some in
    record { sum = carried (l * f) (h * f) s; below = under (l * f) (h * f) (m * f) (d * f) s (omega arith) }
  where
    under : (x y z d : ℕ) → y * 2 ^ 32 + x ≡ z → 2 * z < d * 2 ^ 32 → 2 * (y + upper x) < d
    under x y z d e k = omega arith
