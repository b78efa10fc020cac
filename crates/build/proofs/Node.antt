-- At a node of a list in order those entries that stay and those that come are what is live of the whole list.
use mathlib.Core.Path.{◌≡◌, sym, ap, ◌∙◌}
use mathlib.Core.Bool.{Bool}
use mathlib.Core.List.{List, ◌++◌, append-nil}
use mathlib.Core.Logic.{⊎_elim}
use Prim.Native.Nat.{ℕ, ◌+◌, ◌-◌, ◌≤◌, ◌<◌}
use native.Mathlib.Omega.{arith}
use lib.IntN.{ℤ}
use Rattle.whole.specs.Kind.{rows_from}
use Rattle.whole.specs.Sum.{keep}
use Rattle.whole.proofs.SumLaws.{keep_append, keep-none}
use Rattle.whole.specs.Total.{side}
use Rattle.geom.specs.declared.Point.{Point}
use Rattle.geom.specs.declared.Segment.{Segment}
use Rattle.geom.specs.Plane.{Before}
use Rattle.geom.specs.Rows.{segments}
use Rattle.scan.specs.declared.list.Entry.{Entry}
use Rattle.scan.specs.declared.nodes.Node.{Node}
use Rattle.scan.specs.Scan.{segment_at, entries_from, live_at, stays, arrivals, Known, Reached, Holds}
use Rattle.build.specs.Sweep.{NodeEnd, Ready}
use Rattle.scan.proofs.Walking.{reached}
use Rattle.scan.proofs.Entries.{keep-keep, entries-append, all-entries}
use Rattle.build.proofs.Order.{Upto, here, before-upto, strictly, not_yet, still, Sorted}

module _ (work : List ℤ) (n : ℕ) where
  abbrev L : List Segment
  L = rows_from segments work 0 n

  abbrev E : List Entry
  E = entries_from work 0 n

  module _ {i r : ℕ} (s : Sorted work n) (d : NodeEnd work n i r) where
    abbrev p : Point
    p = (segment_at work i).a

    -- those before the end of the node have begun, and the others have not
    begun : (k : ℕ) → k < r → Upto (segment_at work k).a p
    begun k h = ⊎_elim (λ (q : k ≤ i). s.each k i q (omega (arith, d.after, d.within))) (λ (q : i < k). here (sym (d.same k (omega arith) h))) (side k i)

    to_come_lem : (m : ℕ) → r ≤ m → m < n → Before p (segment_at work m).a
    to_come_lem m h q =
        let l : r < n = omega arith in
        before-upto (strictly (s.each i r (omega (arith, d.after)) l) (d.next l)) (s.each r m h q)

    first : keep (live_at work p) (entries_from work 0 r) ≡ keep (live_at work p) E
    first =
        let F = entries_from work 0 r in
        let G = entries_from work (0 + r) (n - r) in
        let e : r + (n - r) ≡ n = omega (arith, d.within) in
        sym
        (ap (λ (k : ℕ). keep (live_at work p) (entries_from work 0 k)) (sym e)
        ∙ ap (keep (live_at work p)) (entries-append work 0 r (n - r))
        ∙ keep_append (live_at work p) F G
        ∙ ap (λ l. keep (live_at work p) F ++ l) (keep-none (live_at work p) (all-entries work (0 + r) (n - r) (λ m h q. not_yet p (segment_at work m) (to_come_lem m (omega arith) (omega (arith, d.within))))))
        ∙ append-nil (keep (live_at work p) F))

    -- those that stayed and those that came
    pub together : (l : List Entry) → keep (live_at work p) l ≡ keep (live_at work p) (entries_from work 0 i) → keep (live_at work p) l ++ keep (live_at work p) (entries_from work i (r - i)) ≡ keep (live_at work p) E
    together l g =
        let F = entries_from work 0 i in
        let z : 0 + i ≡ i = omega arith in
        let y : i + (r - i) ≡ r = omega (arith, d.after) in
        let a : entries_from work 0 r ≡ F ++ entries_from work i (r - i) =
        ap (entries_from work 0) (sym y) ∙ entries-append work 0 i (r - i) ∙ ap (λ (k : ℕ). F ++ entries_from work k (r - i)) z in
        ap (λ m. m ++ keep (live_at work p) (entries_from work i (r - i))) g
        ∙ sym (keep_append (live_at work p) F (entries_from work i (r - i)))
        ∙ ap (keep (live_at work p)) (sym a)
        ∙ first

    -- at a later node, what was live is what was live of those that had begun
    pub at_next : (m : ℕ) → r ≤ m → m < n → let q = (segment_at work m).a in keep (live_at work q) (keep (live_at work p) E) ≡ keep (live_at work q) (entries_from work 0 r)
    at_next m h l =
        let q = (segment_at work m).a in
        ap (keep (live_at work q)) (sym first)
        ∙ keep-keep (live_at work q) (live_at work p) (all-entries work 0 r (λ k a b. still q p (segment_at work k) (begun k (omega arith)) (s.each i m (omega (arith, d.after)) l)))

-- and what the node knows is right for each segment that starts there
pub node_ready : (work : List ℤ) (n : ℕ) (l : List Entry) (sorted : Bool) {room i m : ℕ} {xs ys : List ℤ} {node : Node} → NodeEnd work n i m
    → Holds room xs (arrivals work n sorted l i m (segment_at work i).a) node.used ys → Known work (segment_at work i).a (stays work sorted l (segment_at work i).a) node.known node.sums
    → node.used ≤ room → Ready work ys node i m
node_ready work n l sorted {room} {i} {m} {xs} {ys} {node} d h k f = record { within = (at i (omega arith) d.after).1; each = λ j p q. (at j p q).0 }
  where
    at : (j : ℕ) → i ≤ j → j < m → Reached work (segment_at work j) ys node.known node.sums × (node.known ≤ node.used)
    at j p q = reached work (segment_at work j) (d.same j p q) n l i m sorted h k f
