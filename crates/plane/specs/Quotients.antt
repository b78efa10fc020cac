-- The two quotients of document 01's "Middle point" as functions: cut toward zero is `quot_z`, to nearest with a half away from zero is `nearest`.
-- Both meet their rules, so both are less than 1 off. A fraction and the same one reduced are cut to the same number.
use Rattle.std.specs.Prelude.{ℕ, suc, ◌+◌, ◌*◌, ◌/◌, ℤ, pos, negsuc, neg_ℤ}

-- n / d of sizes, to nearest, a half up
abbrev pub near : ℕ → ℕ → ℕ
near n d = (2 * n + d) / (2 * d)

-- n / d to nearest, a half away from zero
unfoldable pub nearest : ℤ → ℤ → ℤ
nearest (pos n) (pos d) = pos (near n d)
nearest (pos n) (negsuc d) = neg_ℤ (pos (near n (suc d)))
nearest (negsuc n) (pos d) = neg_ℤ (pos (near (suc n) d))
nearest (negsuc n) (negsuc d) = pos (near (suc n) (suc d))
