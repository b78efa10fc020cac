-- What the program is asked: one version byte 1, then n, fill rule, overlay rule and budget, then six numbers a segment ("Crossings and runs worked by hand").
use Rattle.std.specs.Prelude.{Bool, cond, ◌&&◌, List, ℕ, ◌+◌, ◌*◌, eqb, leb, ℤ, Option, Some, None, length, get_or}
use Rattle.std.proofs.lemmas.List.Edits.{sets}
use Rattle.geom.specs.Limits.{segment_limit}
use Rattle.checks.specs.declared.Settings.{Settings}
use Rattle.wire.specs.Bytes.{word_at, numbers_from}

-- no byte is missing and none is extra, the version is 1, and there are not too many segments
abbrev pub is_whole : List ℕ → Bool
is_whole bs = eqb (length bs) (17 + 24 * word_at bs 1) && eqb (get_or bs 0 0) 1 && leb (word_at bs 1) segment_limit

-- whole, with room for the segments
unfoldable pub is_taken : List ℕ → ℕ → Bool
is_taken bs room = is_whole bs && leb (6 * word_at bs 1) room

abbrev pub settings_of : List ℕ → Settings
settings_of bs = record { n = word_at bs 1; fill = word_at bs 5; rule = word_at bs 9; budget = word_at bs 13 }

unfoldable pub decoded_as : List ℕ → ℕ → Option Settings
decoded_as bs room = cond (is_taken bs room) (Some (settings_of bs)) None

-- the input list: its first rows are the segments, or it is as it was
unfoldable pub decoded_list : List ℕ → List ℤ → List ℤ
decoded_list bs input = cond (is_taken bs (length input)) (sets input 0 (numbers_from bs 17 (6 * word_at bs 1))) input
