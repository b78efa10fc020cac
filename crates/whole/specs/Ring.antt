-- Identities of whole numbers in one line, by reflection. List the variables and let `search` read both sides:
--     ring (x ∷ y ∷ []) (search reads depth 40 fits 50000) tt : (x +ℤ y) *ℤ (x -ℤ y) ≡ x *ℤ x -ℤ y *ℤ y
-- Both sides become polynomials over the listed variables (`Pol`, nested Horner form), and the third argument is the computed test that their difference is
-- zero. `ring` is the soundness theorem of that test. Any term may stand for a variable, as `p.x`; list it as it is written in the goal. Depth is at least
-- the number of variables plus the height of the terms.
-- Refusals: an expected type `⊥` says that the identity is false; "no proof of `Both`" that a variable is missing from the list; a stuck `T` that a `pos n`
-- with n a variable was read as a numeral, and wants the ruleset `reads-atoms` with `pos n` in the list.
use Rattle.std.specs.Prelude.{Bool, true, false, List, [], ◌∷◌, ℕ, zero, suc, eqb, ℤ, pos, negsuc, neg_ℤ, ◌+ℤ◌, ◌*ℤ◌}

-- ---- polynomials, and their value at a list of variables

infixr 5 ◌▹◌
-- a constant, or p + x * q with x the first of the variables, p over the others, q over all
pub data Pol : Type 0 where
  con : ℤ → Pol
  ◌▹◌ : Pol → Pol → Pol

abbrev pub ev : Pol → List ℤ → ℤ
ev (con c) ρ = c
ev (p ▹ q) [] = ev p []
ev (p ▹ q) (x ∷ ρ) = ev p ρ +ℤ x *ℤ ev q (x ∷ ρ)

-- ---- the operations. A constant 0 is not added and not multiplied through: without that a determinant of three rows runs out of steps

-- the constant term plus c
abbrev pub addk : ℤ → Pol → Pol
addk c (con d) = con (c +ℤ d)
addk c (p ▹ q) = addk c p ▹ q

abbrev pub addc : ℤ → Pol → Pol
addc (pos zero) t = t
addc (pos (suc n)) t = addk (pos (suc n)) t
addc (negsuc n) t = addk (negsuc n) t

abbrev pub add : Pol → Pol → Pol
add (con c) t = addc c t
add (p ▹ q) (con d) = addc d p ▹ q
add (p ▹ q) (r ▹ s) = add p r ▹ add q s

-- every coefficient times c
abbrev pub scalek : ℤ → Pol → Pol
scalek c (con d) = con (c *ℤ d)
scalek c (p ▹ q) = scalek c p ▹ scalek c q

abbrev pub scale : ℤ → Pol → Pol
scale (pos zero) t = con (pos 0)
scale (pos (suc n)) t = scalek (pos (suc n)) t
scale (negsuc n) t = scalek (negsuc n) t

abbrev pub neg : Pol → Pol
neg (con d) = con (neg_ℤ d)
neg (p ▹ q) = neg p ▹ neg q

-- f at each coefficient of the first variable
abbrev pub each : (Pol → Pol) → Pol → Pol
each f (con d) = f (con d) ▹ con (pos 0)
each f (r ▹ s) = f r ▹ each f s

abbrev pub mul : Pol → Pol → Pol
mul (con c) t = scale c t
mul (p ▹ q) (con c) = scale c (p ▹ q)
mul (p ▹ q) (r ▹ s) = add (each (λ r. mul p r) (r ▹ s)) (con (pos 0) ▹ mul q (r ▹ s))

abbrev pub is_z : ℤ → Bool
is_z (pos n) = eqb n 0
is_z (negsuc n) = false

abbrev pub is_zero : Pol → Bool
is_zero (con c) = is_z c
is_zero (p ▹ q) = elim (is_zero p) [ true ↦ is_zero q | false ↦ false ]

-- ---- a term read as a polynomial over the variables ρ: `search reads` finds the reading, constructor by constructor

pub data At : List ℤ → ℤ → Type 0 where
  here : {x : ℤ} {ρ : List ℤ} → At (x ∷ ρ) x
  there : {x y : ℤ} {ρ : List ℤ} → At ρ x → At (y ∷ ρ) x

pub data Is (ρ : List ℤ) : ℤ → Type 0 where
  is_var : {x : ℤ} → At ρ x → Is ρ x
  is_add : {a b : ℤ} → Is ρ a → Is ρ b → Is ρ (a +ℤ b)
  is_mul : {a b : ℤ} → Is ρ a → Is ρ b → Is ρ (a *ℤ b)
  is_neg : {a : ℤ} → Is ρ a → Is ρ (neg_ℤ a)
  is_pos : {n : ℕ} → Is ρ (pos n)
  is_negsuc : {n : ℕ} → Is ρ (negsuc n)

abbrev pub place : {ρ : List ℤ} {x : ℤ} → At ρ x → Pol
place here = con (pos 0) ▹ con (pos 1)
place (there a) = place a ▹ con (pos 0)

abbrev pub pol : {ρ : List ℤ} {z : ℤ} → Is ρ z → Pol
pol (is_var a) = place a
pol (is_add r s) = add (pol r) (pol s)
pol (is_mul r s) = mul (pol r) (pol s)
pol (is_neg r) = neg (pol r)
pol (is_pos {n = n}) = con (pos n)
pol (is_negsuc {n = n}) = con (negsuc n)

-- ---- the theorem: two terms are equal where the difference of their polynomials is zero

-- a reading of both sides
pub data Both (ρ : List ℤ) : ℤ → ℤ → Type 0 where
  both : {a b : ℤ} → Is ρ a → Is ρ b → Both ρ a b

abbrev pub diff : {ρ : List ℤ} {a b : ℤ} → Both ρ a b → Pol
diff (both r s) = add (pol r) (neg (pol s))

pub ruleset reads = (both, is_add, is_mul, is_neg, is_var, here, there, is_pos, is_negsuc)

-- for a goal without numerals
pub ruleset reads-atoms = (both, is_add, is_mul, is_neg, is_var, here, there)
