-- The definitions computed: the ends of both kinds of number as digits, and two lines.
use Rattle.std.specs.Prelude.{◌≡◌, refl, [], ◌∷◌, pos, negsuc}
use Rattle.geom.specs.Plane.{point, segment}
use Rattle.text.specs.Text.{decimal, digits_within, number, spaced, line, head}

-- 0, 10, 109, the greatest of 64 bits, -2^31
digits :
    (decimal 0 ≡ 48 ∷ [])
    × (decimal 10 ≡ 49 ∷ 48 ∷ [])
    × (decimal 109 ≡ 49 ∷ 48 ∷ 57 ∷ [])
    × (decimal 18446744073709551615 ≡ 49 ∷ 56 ∷ 52 ∷ 52 ∷ 54 ∷ 55 ∷ 52 ∷ 52 ∷ 48 ∷ 55 ∷ 51 ∷ 55 ∷ 48 ∷ 57 ∷ 53 ∷ 53 ∷ 49 ∷ 54 ∷ 49 ∷ 53 ∷ [])
    × (number (negsuc 2147483647) ≡ 45 ∷ 50 ∷ 49 ∷ 52 ∷ 55 ∷ 52 ∷ 56 ∷ 51 ∷ 54 ∷ 52 ∷ 56 ∷ [])
unfolding digits_within number
digits = (refl, refl, refl, refl, refl)

-- "0 12" and the fourth line of the printed case, "2 2 2 4 0 -1 27"
texts :
    (head 0 12 ≡ 48 ∷ 32 ∷ 49 ∷ 50 ∷ 10 ∷ [])
    × (line (segment (point (pos 2) (pos 2)) (point (pos 2) (pos 4)) (pos 0) (negsuc 0)) 27
    ≡ 50 ∷ 32 ∷ 50 ∷ 32 ∷ 50 ∷ 32 ∷ 52 ∷ 32 ∷ 48 ∷ 32 ∷ 45 ∷ 49 ∷ 32 ∷ 50 ∷ 55 ∷ 10 ∷ [])
unfolding digits_within number spaced line head
texts = (refl, refl)
