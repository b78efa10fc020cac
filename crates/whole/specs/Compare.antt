-- Order and equality of polynomials, linear in their monomials: what `omega zz` does for sums, for terms with products of variables. Each fact is read by `search`
-- as for `ring`, and becomes a fact of ℕ about the halves of the monomials, which omega combines:
--     out≤ ρ (search reads ..) (omega (arith, in≤ ρ (search reads ..) h, in< ρ (search reads ..) k)) : a ≤ℤ b
-- with ρ one list of variables for all. A monomial is an atom: where its sign matters, bring it in, `in≤ ρ (..) (mul_nonneg p q)`.
use Rattle.std.specs.Prelude.{List, [], ◌∷◌, ℕ, zero, suc, ◌+◌, ◌*◌, ℤ, pos, negsuc, ◌*ℤ◌}
use Rattle.whole.specs.Order.{up, dn}
use Rattle.whole.specs.Ring.{Pol, con, ◌▹◌}

-- ---- monomials: the product of some variables, the empty one apart so that a single variable is an atom by itself

pub data Mon : Type 0 where
  unit : Mon
  at : ℤ → Mon

abbrev pub val : Mon → ℤ
val unit = pos 1
val (at m) = m

abbrev pub by : Mon → ℤ → Mon
by unit x = at x
by (at m) x = at (m *ℤ x)

-- ---- the halves of c * m, and of a polynomial times m, each a sum of halves of monomials

abbrev pub coef_u : ℤ → ℤ → ℕ
coef_u (pos zero) m = 0
coef_u (pos (suc n)) m = suc n * up m
coef_u (negsuc n) m = suc n * dn m

abbrev pub coef_d : ℤ → ℤ → ℕ
coef_d (pos zero) m = 0
coef_d (pos (suc n)) m = suc n * dn m
coef_d (negsuc n) m = suc n * up m

abbrev pub LU : Pol → List ℤ → Mon → ℕ
LU (con c) ρ m = coef_u c (val m)
LU (p ▹ q) [] m = LU p [] m
LU (p ▹ q) (x ∷ ρ) m = LU p ρ m + LU q (x ∷ ρ) (by m x)

abbrev pub LD : Pol → List ℤ → Mon → ℕ
LD (con c) ρ m = coef_d c (val m)
LD (p ▹ q) [] m = LD p [] m
LD (p ▹ q) (x ∷ ρ) m = LD p ρ m + LD q (x ∷ ρ) (by m x)
