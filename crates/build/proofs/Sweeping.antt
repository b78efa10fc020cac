-- The invariant of the sweep over nodes, and one law for each event: a node that is crowded, a node whose bytes are written, the end.
use mathlib.Core.Path.{◌≡◌, refl, sym, ap, ◌∙◌}
use mathlib.Core.Bool.{Bool, true, false}
use mathlib.Core.List.{List, [], ◌∷◌, ◌++◌, map, map-append}
use Prim.Native.Nat.{ℕ, zero, suc, ◌+◌, ◌-◌, ◌≤◌, ◌<◌}
use native.Mathlib.Nat.{sub-zero}
use native.Mathlib.Omega.{arith}
use lib.Dec.{ltb}
use lib.IntN.{ℤ}
use lib.ListN.{length, length-map}
use lib.Seq.{sets, length-sets}
use borrow.Author.Tests.{lt-ltb, le-ltb}
use Rattle.whole.specs.Kind.{rows_from}
use Rattle.whole.proofs.KindLaws.{sets_append, rows_append, rows-done, length-rows}
use Rattle.whole.specs.Sum.{All, none, keep}
use Rattle.whole.proofs.SumLaws.{all_map, all_keep}
use Rattle.geom.specs.declared.Point.{Point}
use Rattle.geom.specs.declared.Segment.{Segment}
use Rattle.geom.specs.Rows.{segments}
use Rattle.edges.specs.Below.{live}
use Rattle.scan.specs.Masks.{byte_of, bytes, crowded_from, crowded}
use Rattle.scan.specs.Scan.{entries, segment_at, entries_from, EntryOf, live_at, sums_of, byte_by, arrivals, Holds}
use Rattle.std.specs.Prelude.{Ok, Err}
use Rattle.build.specs.declared.sweep.FillError.TheVariants.{ScanFull}
use Rattle.build.specs.Sweep.{bytes_by, ordered, NodeEnd, Swept}
use Rattle.scan.proofs.Entries.{all_entry}
use Rattle.build.proofs.Order.{in_order}
use Rattle.scan.proofs.Node.{live-number, byte_is}
use Rattle.build.proofs.Node.{together, at_next}

-- two functions that agree on the k rows from i on
rows-map : (work : List ℤ) (f g : Segment → ℕ) (i k : ℕ) → ((m : ℕ) → i ≤ m → m < i + k → f (segment_at work m) ≡ g (segment_at work m)) → map f (rows_from segments work i k) ≡ map g (rows_from segments work i k)
unfolding rows_from
rows-map work f g i zero h = refl
rows-map work f g i (suc k) h =
    rw (h i (omega arith) (omega arith)) (ap (λ (l : List ℕ). g (segment_at work i) ∷ l) (rows-map work f g (suc i) k (λ m a b. h m (omega arith) (omega arith))))

module _ (fill rule room : ℕ) (work : List ℤ) (n : ℕ) (sorted : Bool) where
  abbrev L : List Segment
  L = rows_from segments work 0 n

  abbrev at : ℕ → Point
  at k = (segment_at work k).a

  -- the entries in use are the list's, and in a list in order, at a later node, those that are still live of the first i; the bytes from i on are to come;
  -- no node before i was crowded
  pub record Sweeping (xs₀ : List ℤ) (ms₀ : List ℕ) (xs : List ℤ) (ms : List ℕ) (used i : ℕ) : Type 0 where
    pub within : i ≤ n
    pub fits : used ≤ room
    pub scan_kept : length xs ≡ length xs₀
    pub masks_kept : length ms ≡ length ms₀
    pub entry : All (EntryOf work n) (rows_from entries xs 0 used)
    pub ready : sorted ≡ true → (m : ℕ) → i ≤ m → m < n → keep (live_at work (at m)) (rows_from entries xs 0 used) ≡ keep (live_at work (at m)) (entries_from work 0 i)
    pub to_come_lem : sets ms i (map (byte_of fill rule L) (rows_from segments work i (n - i))) ≡ sets ms₀ 0 (bytes fill rule L)
    pub free : crowded_from room L (rows_from segments work i (n - i)) ≡ crowded room L

  pub sweeping_start : (xs : List ℤ) (ms : List ℕ) → Sweeping xs ms xs ms 0 0
  unfolding rows_from entries_from
  sweeping_start xs ms =
      record {
        within = omega arith;
        fits = omega arith;
        scan_kept = refl;
        masks_kept = refl;
        entry = none;
        ready = λ s m h q. refl;
        to_come_lem = rw (sub-zero n);
        free = rw (sub-zero n);
      }

  crowded_skip : (i k l : ℕ) → ((m : ℕ) → i ≤ m → m < i + k → ltb room (length (keep (live (at m)) L)) ≡ false) → crowded_from room L (rows_from segments work i k ++ rows_from segments work (i + k) l) ≡ crowded_from room L (rows_from segments work (i + k) l)
  unfolding crowded_from rows_from
  crowded_skip i zero l f = refl
  crowded_skip i (suc k) l f =
      let z : i + suc k ≡ suc i + k = omega arith in
      rw (z, f i (omega arith) (omega arith)) (crowded_skip (suc i) k l (λ m h q. f m (omega arith) (omega arith)))

  crowded-here : (i : ℕ) → i < n → ltb room (length (keep (live (at i)) L)) ≡ true → crowded_from room L (rows_from segments work i (n - i)) ≡ true
  unfolding crowded_from rows_from
  crowded-here i h t = let e : n - i ≡ suc (n - suc i) = omega arith in rw (e, t)

  module _ {xs₀ : List ℤ} {ms₀ : List ℕ} {xs : List ℤ} {ms : List ℕ} {used i : ℕ} (g : Sweeping xs₀ ms₀ xs ms used i) where
    -- ---- a node
    module _
        {r l : ℕ} {ys : List ℤ} (o : sorted ≡ ordered L) (d : NodeEnd work n i r)
        (a : Holds room xs (arrivals work n sorted (rows_from entries xs 0 used) i r (at i)) l ys)
      where
        came : arrivals work n sorted (rows_from entries xs 0 used) i r (at i) ≡ keep (live_at work (at i)) (entries_from work 0 n)
        came = go sorted refl
          where
            go : (c : Bool) → sorted ≡ c → arrivals work n c (rows_from entries xs 0 used) i r (at i) ≡ keep (live_at work (at i)) (entries_from work 0 n)
            go true e = together work n (in_order work n (sym o ∙ e)) d (rows_from entries xs 0 used) (g.ready e i (omega arith) (omega (arith, d.after, d.within)))
            go false e = refl

        number : (m : ℕ) → i ≤ m → m < r → length (keep (live (at m)) L) ≡ l
        number m h q =
            ap (λ (p : Point). length (keep (live p) L)) (sym (d.same m h q))
            ∙ live-number work n (at i)
            ∙ ap length (sym came)
            ∙ sym a.number

        pub rows_now : l ≤ room → rows_from entries ys 0 l ≡ keep (live_at work (at i)) (entries_from work 0 n)
        rows_now h = a.rows h ∙ came

        pub entries_now : l ≤ room → All (EntryOf work n) (rows_from entries ys 0 l)
        entries_now h = rw (rows_now h) (all_map (λ t m. m.1) (all_keep (live_at work (at i)) (all_entry work n)))

        -- it is crowded
        pub swept-crowded : room < l → Swept fill rule room L xs₀ ms₀ (Err ScanFull) ys ms
        swept-crowded h =
            let q = number i (omega arith) d.after in
            let t = crowded-here i (omega (arith, d.after, d.within)) (lt-ltb room (length (keep (live (at i)) L)) (omega arith)) in
            record {
              answer = sym (sym g.free ∙ t);
              error = refl;
              bytes_are = λ e. let z : ◌≡◌ {A = ℕ} 0 1 = cc in absurd (omega arith);
              scan_kept = a.same_length ∙ g.scan_kept;
              masks_kept = g.masks_kept;
            }

        -- it is not, and its bytes are written
        pub sweeping_step : l ≤ room → {ns : List ℕ} → ns ≡ sets ms i (bytes_by fill rule work (rows_from entries ys 0 l) (rows_from segments work i (r - i))) → Sweeping xs₀ ms₀ ys ns l r
        sweeping_step h {ns} e =
            record {
              within = d.within;
              fits = h;
              scan_kept = a.same_length ∙ g.scan_kept;
              masks_kept = ap length e ∙ length-sets ms i S ∙ g.masks_kept;
              entry = entries_now h;
              ready = λ s m b q. ap (keep (live_at work (at m))) (rows_now h) ∙ at_next work n (in_order work n (sym o ∙ s)) d m b q;
              to_come_lem =
                  ap (λ (v : List ℕ). sets v r (map B R)) e
                  ∙ ap (λ (k : ℕ). sets (sets ms i S) k (map B R)) (sym end)
                  ∙ sym (sets_append ms i S (map B R))
                  ∙ ap (λ (v : List ℕ). sets ms i v) (sym all)
                  ∙ g.to_come_lem;
              free =
                  sym (ap (crowded_from room L) parts ∙ ap (λ (k : ℕ). crowded_from room L (rows_from segments work i (r - i) ++ rows_from segments work k (n - r))) (sym y) ∙ crowded_skip i (r - i) (n - r) (λ m b c. let q = number m b (omega arith) in le-ltb room (length (keep (live (at m)) L)) (omega arith)) ∙ ap (λ (k : ℕ). crowded_from room L (rows_from segments work k (n - r))) y)
                  ∙ g.free;
            }
          where
            B : Segment → ℕ
            B = byte_of fill rule L

            R : List Segment
            R = rows_from segments work r (n - r)

            S : List ℕ
            S = bytes_by fill rule work (rows_from entries ys 0 l) (rows_from segments work i (r - i))

            y : i + (r - i) ≡ r
            y = omega (arith, d.after)

            end : i + length S ≡ r
            end = omega (arith, length-map (rows_from segments work i (r - i)) (λ v. byte_by fill rule (sums_of work v (rows_from entries ys 0 l)) v), length-rows segments work i (r - i), d.after)

            parts : rows_from segments work i (n - i) ≡ rows_from segments work i (r - i) ++ R
            parts =
                let z : n - i ≡ (r - i) + (n - r) = omega (arith, d.after, d.within) in
                ap (rows_from segments work i) z ∙ rows_append segments work i (r - i) (n - r) ∙ ap (λ (k : ℕ). rows_from segments work i (r - i) ++ rows_from segments work k (n - r)) y

            same : (m : ℕ) → i ≤ m → m < i + (r - i) → byte_by fill rule (sums_of work (segment_at work m) (rows_from entries ys 0 l)) (segment_at work m) ≡ B (segment_at work m)
            same m b q =
                ap (λ v. byte_by fill rule (sums_of work (segment_at work m) v) (segment_at work m)) (rows_now h ∙ ap (λ (p : Point). keep (live_at work p) (entries_from work 0 n)) (d.same m b (omega (arith, y))))
                ∙ byte_is work n fill rule (segment_at work m)

            all : map B (rows_from segments work i (n - i)) ≡ S ++ map B R
            all = ap (map B) parts ∙ map-append B (rows_from segments work i (r - i)) R ∙ ap (λ (v : List ℕ). v ++ map B R) (sym (rows-map work (λ v. byte_by fill rule (sums_of work v (rows_from entries ys 0 l)) v) B i (r - i) same))

    -- ---- the end
    pub swept : n ≤ i → Swept fill rule room L xs₀ ms₀ (Ok tt) xs ms
    unfolding crowded_from
    swept h =
        let e : rows_from segments work i (n - i) ≡ [] = rows-done segments work n i h in
        record {
          answer = sym (sym g.free ∙ ap (crowded_from room L) e);
          error = tt;
          bytes_are = λ f. sym (ap (λ (K : List Segment). sets ms i (map (byte_of fill rule L) K)) e) ∙ g.to_come_lem;
          scan_kept = g.scan_kept;
          masks_kept = g.masks_kept;
        }
