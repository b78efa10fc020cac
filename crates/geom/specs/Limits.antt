-- The limits ("Input and answer"), in one place: a capacity is the number of whole entries of a lent list, cut to the limit.
use Rattle.std.specs.Prelude.{ℕ, ◌/◌, min}

-- the most segments, marks and scan entries
abbrev pub segment_limit : ℕ
segment_limit = 2048

abbrev pub mark_limit : ℕ
mark_limit = 65536

abbrev pub scan_limit : ℕ
scan_limit = 2048

-- of a work list, a mark list and a scan list of l numbers
abbrev pub work_room : ℕ → ℕ
work_room l = min segment_limit (l / 6)

abbrev pub mark_room : ℕ → ℕ
mark_room l = min mark_limit (l / 3)

abbrev pub scan_room : ℕ → ℕ
scan_room l = min scan_limit (l / 3)
