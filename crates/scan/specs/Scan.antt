-- The scan list ("Input and answer"): an entry is the number of a segment and its two counts, 64 bits each. And what is read off it at a node ("Masks").
use Rattle.std.specs.Prelude.{◌≡◌, refl, Bool, true, false, cond, ◌||◌, List, [], ◌∷◌, ◌++◌, ℕ, zero, suc, ◌+◌, ◌*◌, ◌-◌, ◌<◌, ◌≤◌, ℤ, pos, nat_abs, ◌+ℤ◌, ◌*ℤ◌, length, get_or}
use Rattle.std.specs.Ordering.{is_gt, is_eq}
use Rattle.std.specs.declared.cmp.Ordering.{Ordering}
use Rattle.whole.specs.Kind.{Kind, row_at, rows_from, front}
use Rattle.whole.proofs.KindLaws.{three-numbered, three-short}
use Rattle.whole.specs.Sum.{Over, ind, keep}
use Rattle.geom.specs.declared.Point.{Point}
use Rattle.geom.specs.declared.Segment.{Segment}
use Rattle.geom.specs.Plane.{Side, subject, clip, GridSegment}
use Rattle.geom.specs.Rows.{segments}
use Rattle.fills.specs.Inside.{inside}
use Rattle.rules.specs.Keep.{flag, kept}
use Rattle.edges.specs.Below.{live, below, over, level}
use Rattle.scan.specs.declared.list.Entry.{Entry}
use Rattle.scan.specs.declared.sums.Sums.{Sums}
use Rattle.scan.specs.declared.nodes.Below.{Below}
use Rattle.scan.specs.declared.nodes.Stayed.{Stayed}
use Rattle.scan.specs.declared.nodes.Node.{Node}

-- ---- entries as rows

abbrev pub numbers : Entry → List ℤ
numbers t = t.segment ∷ t.subject ∷ t.clip ∷ []

abbrev pub make : List ℤ → Entry
make l = record { segment = get_or l 0 (pos 0); subject = get_or l 1 (pos 0); clip = get_or l 2 (pos 0) }

abbrev pub entries : Kind Entry
entries = record { width = 3; numbers = numbers; make = make; sized = λ t. refl; made = λ t l. refl; numbered = three-numbered; short = three-short (λ a b c. record { segment = a; subject = b; clip = c }) }

-- ---- entries of a work list

abbrev pub segment_at : List ℤ → ℕ → Segment
segment_at work i = row_at segments work i

abbrev pub entry_of : ℕ → Segment → Entry
entry_of i v = record { segment = pos i; subject = v.subject.0; clip = v.clip.0 }

-- the entries of the k segments from number i on
unfoldable pub entries_from : List ℤ → ℕ → ℕ → List Entry
entries_from work i zero = []
entries_from work i (suc k) = entry_of i (segment_at work i) ∷ entries_from work (suc i) k

-- the segment that an entry names
abbrev pub named : List ℤ → Entry → Segment
named work t = segment_at work (nat_abs t.segment)

-- an entry of one of the n segments
pub record EntryOf (work : List ℤ) (n : ℕ) (t : Entry) : Type 0 where
  pub number : ℕ
  pub is : t ≡ entry_of number (segment_at work number)
  pub small : number < n

abbrev pub live_at : List ℤ → Point → Entry → Bool
live_at work p t = live p (named work t)

-- ---- the sums over entries

abbrev pub amount : Side → Entry → ℤ
amount subject t = t.subject
amount clip t = t.clip

abbrev pub part : Side → Sums → ℤ
part subject s = s.subject
part clip s = s.clip

abbrev pub no_sums : Sums
no_sums = record { subject = pos 0; clip = pos 0 }

-- one entry more, if it counts
abbrev pub add_if : Bool → Sums → Entry → Sums
add_if hit s t = record { subject = s.subject +ℤ t.subject *ℤ ind hit; clip = s.clip +ℤ t.clip *ℤ ind hit }

-- the counts of those entries that lie below e
abbrev pub sum_of : Side → List ℤ → Segment → List Entry → ℤ
sum_of k work e l = Over (amount k) (λ t. below (named work t) e) l

abbrev pub sums_of : List ℤ → Segment → List Entry → Sums
sums_of work e l = record { subject = sum_of subject work e l; clip = sum_of clip work e l }

-- the first k entries add up to s below e
pub record Reached (work : List ℤ) (e : Segment) (xs : List ℤ) (k : ℕ) (s : Sums) : Type 0 where
  pub sums : s ≡ sums_of work e (rows_from entries xs 0 k)
  pub near : (side : Side) → nat_abs (part side s) ≤ k * 2147483648

-- ---- the sums at a point: of entries that are live there they are those below every edge that starts there, unless one of the entries passes through the point

abbrev pub passes_under : List ℤ → Point → Entry → Bool
passes_under work p t = over (named work t) p

unfoldable pub some_through : List ℤ → Point → List Entry → Bool
some_through work p [] = false
some_through work p (t ∷ l) = level (named work t) p || some_through work p l

abbrev pub sum_at : Side → List ℤ → Point → List Entry → ℤ
sum_at k work p l = Over (amount k) (passes_under work p) l

abbrev pub sums_at : List ℤ → Point → List Entry → Sums
sums_at work p l = record { subject = sum_at subject work p l; clip = sum_at clip work p l }

-- one entry more
abbrev pub with_entry : Ordering → Below → Entry → Below
with_entry h b t = record { sums = add_if (is_gt h) b.sums t; through = b.through || is_eq h }

-- ---- the byte of an edge by the sums at its bottom

-- the bits of one side, from the sum at the bottom and the edge's own count: 1 for the top, 2 for the bottom
unfoldable pub side_by : ℕ → ℤ → ℤ → ℕ
side_by fill bottom own = flag (inside fill (bottom +ℤ own)) + 2 * flag (inside fill bottom)

unfoldable pub mask_by : ℕ → Sums → Segment → ℕ
mask_by fill s e = side_by fill s.subject e.subject.0 + 4 * side_by fill s.clip e.clip.0

unfoldable pub byte_by : ℕ → ℕ → Sums → Segment → ℕ
byte_by fill rule s e = let m = mask_by fill s e in m + 16 * flag (kept rule m)

-- ---- nodes

-- the first n segments are on the grid
pub record OnGrids (work : List ℤ) (n : ℕ) : Type 0 where
  pub each : (i : ℕ) → i < n → GridSegment (segment_at work i)

-- what a node from i to e at p leaves in the scan list: in a list in order, of the entries in use those that are still live, and then its own; else all that are live
abbrev pub arrivals : List ℤ → ℕ → Bool → List Entry → ℕ → ℕ → Point → List Entry
arrivals work n true l i e p = keep (live_at work p) l ++ keep (live_at work p) (entries_from work i (e - i))
arrivals work n false l i e p = keep (live_at work p) (entries_from work 0 n)

-- those in use that stay: in a list that is made anew none
abbrev pub stays : List ℤ → Bool → List Entry → Point → List Entry
stays work true l p = keep (live_at work p) l
stays work false l p = []

-- the entries in use that are live at p, at the front of the list, and their sums there
pub record Staying (work : List ℤ) (p : Point) (xs : List ℤ) (used left : ℕ) (b : Below) (ys : List ℤ) : Type 0 where
  pub number : left ≡ length (keep (live_at work p) (rows_from entries xs 0 used))
  pub within : left ≤ used
  pub list : ys ≡ front entries xs (keep (live_at work p) (rows_from entries xs 0 used))
  pub sums : b.sums ≡ sums_at work p (keep (live_at work p) (rows_from entries xs 0 used))
  pub through : b.through ≡ some_through work p (keep (live_at work p) (rows_from entries xs 0 used))
  pub near : (side : Side) → nat_abs (part side b.sums) ≤ left * 2147483648

-- with one that passes through p nothing is known
abbrev pub node_of : ℕ → Stayed → Node
node_of used s =
    record { used = used; known = cond s.below.through 0 s.left; sums = cond s.below.through no_sums s.below.sums }

-- what a node at p knows of the entries l that stay: their number and sums; of none, where one passes through p
pub record Known (work : List ℤ) (p : Point) (l : List Entry) (k : ℕ) (s : Sums) : Type 0 where
  pub number : k ≡ cond (some_through work p l) 0 (length l)
  pub sums : s ≡ cond (some_through work p l) no_sums (sums_at work p l)
  pub near : (side : Side) → nat_abs (part side s) ≤ k * 2147483648

-- the scan list then holds these, if there is room
pub record Holds (room : ℕ) (xs : List ℤ) (l : List Entry) (r : ℕ) (ys : List ℤ) : Type 0 where
  pub same_length : length ys ≡ length xs
  pub number : r ≡ length l
  pub rows : r ≤ room → rows_from entries ys 0 r ≡ l
