-- The definitions computed: the ends of both kinds of number in bytes.
use Rattle.std.specs.Prelude.{◌≡◌, refl, [], ◌∷◌, pos, negsuc}
use Rattle.wire.specs.Bytes.{word_at, signed, numbers_from}

-- 0x01020304; then 2^31 - 1, -2^31, -1
bytes :
    (word_at (9 ∷ 1 ∷ 2 ∷ 3 ∷ 4 ∷ []) 1 ≡ 16909060)
    × (numbers_from (127 ∷ 255 ∷ 255 ∷ 255 ∷ 128 ∷ 0 ∷ 0 ∷ 0 ∷ 255 ∷ 255 ∷ 255 ∷ 255 ∷ []) 0 3 ≡ pos 2147483647 ∷ negsuc 2147483647 ∷ negsuc 0 ∷ [])
unfolding signed numbers_from
bytes = (refl, refl)
