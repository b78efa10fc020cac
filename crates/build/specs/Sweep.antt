-- The sweep over nodes ("Masks"): a list in order, where a node ends, and the bytes that are written there.
use Rattle.std.specs.Prelude.{◌≡◌, Bool, true, false, Result, ⊤, is_err, IsOkUnless, not, ◌&&◌, List, [], ◌∷◌, map, ℕ, ◌<◌, ◌≤◌, ℤ, length}
use Rattle.std.proofs.lemmas.List.Edits.{sets}
use Rattle.geom.specs.declared.Segment.{Segment}
use Rattle.geom.specs.Plane.{before, same_point}
use Rattle.scan.specs.declared.list.Entry.{Entry}
use Rattle.scan.specs.declared.nodes.Node.{Node}
use Rattle.build.specs.declared.sweep.FillError.{FillError}
use Rattle.build.specs.declared.sweep.FillError.TheVariants.{ScanFull}
use Rattle.scan.specs.Masks.{bytes, crowded}
use Rattle.scan.specs.Scan.{segment_at, sums_of, Reached, byte_by}

-- no segment starts before the one that stands before it
unfoldable pub ordered : List Segment → Bool
ordered [] = true
ordered (u ∷ []) = true
ordered (u ∷ v ∷ L) = not (before v.a u.a) && ordered (v ∷ L)

-- r ends the node that starts at i: the segments from i to r start where i does, and the next does not
pub record NodeEnd (work : List ℤ) (n i r : ℕ) : Type 0 where
  pub after : i < r
  pub within : r ≤ n
  pub same : (k : ℕ) → i ≤ k → k < r → (segment_at work i).a ≡ (segment_at work k).a
  pub next : r < n → same_point (segment_at work i).a (segment_at work r).a ≡ false

-- what a node knows is right for each of its segments, from i to e
pub record Ready (work scan : List ℤ) (node : Node) (i e : ℕ) : Type 0 where
  pub within : node.known ≤ node.used
  pub each : (k : ℕ) → i ≤ k → k < e → Reached work (segment_at work k) scan node.known node.sums

-- the bytes of edges by the entries in use
abbrev pub bytes_by : ℕ → ℕ → List ℤ → List Entry → List Segment → List ℕ
bytes_by fill rule work l K = map (λ e. byte_by fill rule (sums_of work e l) e) K

-- what the sweep promises: 11 where some node is crowded, and the bytes where none is
pub record Swept (fill rule room : ℕ) (L : List Segment) (xs : List ℤ) (ms : List ℕ) (r : Result ⊤ FillError) (ys : List ℤ) (ns : List ℕ) : Type 0 where
  pub answer : is_err r ≡ crowded room L
  pub error : IsOkUnless r ScanFull
  pub bytes_are : is_err r ≡ false → ns ≡ sets ms 0 (bytes fill rule L)
  pub scan_kept : length ys ≡ length xs
  pub masks_kept : length ns ≡ length ms
