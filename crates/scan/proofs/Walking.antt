-- The pass over the entries in use at a node: those that are live stay, in place, and are added up on the way (Walking). And what that tells of an edge
-- that starts at the node (`reached`): an entry that is live there and does not pass through the point is below the edge just if it passes under the point.
use mathlib.Core.Path.{◌≡◌, refl, sym, ap, ap₂, subst, ◌∙◌}
use mathlib.Core.Bool.{Bool, true, false, cond, ◌||◌}
use mathlib.Core.List.{List, [], ◌∷◌, ◌++◌}
use Prim.Native.Nat.{ℕ, ◌+◌, ◌*◌, ◌-◌, ◌≤◌, ◌<◌}
use native.Mathlib.Nat.{sub-zero}
use native.Mathlib.Omega.{arith}
use lib.IntN.{ℤ, nat_abs}
use lib.ListN.{length, take, length-append}
use lib.Seq.{take_at}
use Rattle.std.specs.Ordering.{is_gt, is_eq}
use Rattle.std.specs.declared.cmp.Ordering.{Ordering}
use Rattle.whole.specs.Kind.{row_at, put_row, rows_from}
use Rattle.whole.proofs.KindLaws.{rows_step, rows-done, rows_append, length-rows}
use Rattle.whole.specs.PassLaws.{Going, going_start}
use Rattle.whole.proofs.PassLaws.{going_skip, going_put, done}
use Rattle.whole.specs.Sum.{All, none, also, Sum, Over, keep}
use Rattle.whole.proofs.SumLaws.{all_map, all_both, all_keep, all_of, over-same, keep-yes, keep_no}
use Rattle.whole.proofs.TestLaws.{neither, or_false}
use Rattle.geom.specs.declared.Point.{Point}
use Rattle.geom.specs.declared.Segment.{Segment}
use Rattle.geom.specs.Plane.{Side, subject, clip}
use Rattle.edges.specs.Below.{below, level, height_at}
use Rattle.edges.proofs.Under.{passing}
use Rattle.edges.proofs.Height.{is_gt_height, is_eq_height}
use Rattle.scan.specs.declared.list.Entry.{Entry}
use Rattle.scan.specs.declared.nodes.Below.{Below}
use Rattle.scan.specs.declared.sums.Sums.{Sums}
use Rattle.scan.specs.Scan.{entries, named, entries_from, live_at, amount, part, no_sums, sums_of, passes_under, some_through, sums_at, with_entry, stays, arrivals, Staying, Known, Reached, Holds}
use Rattle.scan.proofs.Entries.{keeping, pass-keep}
use Rattle.scan.proofs.Adding.{pair_eq, Adding, adding_start, adding_step, adding_done}

-- ---- the pass

or_assoc : (a b c : Bool) → ((a || b) || c) ≡ (a || (b || c))
or_assoc true b c = refl
or_assoc false b c = refl

module _ (work : List ℤ) (p : Point) (xs₀ : List ℤ) (used : ℕ) where
  -- those that stay of the entries from number k on
  abbrev rest : ℕ → List Entry
  rest k = keep (live_at work p) (rows_from entries xs₀ k (used - k))

  abbrev all : List Entry
  all = keep (live_at work p) (rows_from entries xs₀ 0 used)

  pub record Walking (xs : List ℤ) (left : ℕ) (b : Below) (k : ℕ) : Type 0 where
    pub short : left ≤ k
    pub within : k ≤ used
    pub going : Going entries (keeping (live_at work p)) xs₀ used all xs left k 0
    pub adding : Adding (passes_under work p) all b.sums (rest k) left
    pub through : (b.through || some_through work p (rest k)) ≡ some_through work p all

  pub walking_start : {b : Below} → b ≡ record { sums = no_sums; through = false } → Walking xs₀ 0 b 0
  walking_start e =
      rw e
      (record {
        short = omega arith;
        within = omega arith;
        going = rw (pass-keep (live_at work p), sub-zero used) at (going_start entries (keeping (live_at work p)) xs₀ used 0 0);
        adding = rw (sub-zero used) (adding_start (passes_under work p) all);
        through = rw (sub-zero used);
      })

  module _ {xs : List ℤ} {left : ℕ} {b : Below} {k : ℕ} (w : Walking xs left b k) where
    module _ (h : k < used) {t : Entry} (q : t ≡ row_at entries xs k) where
      more : rest k ≡ keep (live_at work p) (t ∷ rows_from entries xs₀ (k + 1) (used - (k + 1)))
      more = ap (keep (live_at work p)) (rows_step entries xs₀ used k h ∙ ap (λ (u : Entry). u ∷ rows_from entries xs₀ (k + 1) (used - (k + 1))) (sym (q ∙ w.going.ahead k (omega arith))))

      -- an entry that stays
      pub walking_yes : live_at work p t ≡ true → ((side : Side) → nat_abs (amount side t) ≤ 2147483648)
          → {ys : List ℤ} → ys ≡ put_row entries xs left t
          → {g : Ordering} → g ≡ height_at (named work t) p
          → {r : Below} → r ≡ with_entry g b t
          → Walking ys (left + 1) r (k + 1)
      unfolding keep some_through
      walking_yes e small {ys} y {g} z {r} d =
          let f : rest k ≡ t ∷ rest (k + 1) = more ∙ keep-yes (live_at work p) t (rows_from entries xs₀ (k + 1) (used - (k + 1))) e in
          record {
            short = omega (arith, w.short);
            within = omega arith;
            going = going_put entries (keeping (live_at work p)) w.going t t h q (keep-yes (live_at work p) t [] e) w.short y;
            adding = adding_step (passes_under work p) all w.adding f small (ap is_gt z ∙ is_gt_height (named work t) p) (ap (λ (v : Below). v.sums) d);
            through =
                ap (λ (v : Below). v.through || some_through work p (rest (k + 1))) d
                ∙ ap (λ (v : Bool). (b.through || v) || some_through work p (rest (k + 1))) (ap is_eq z ∙ is_eq_height (named work t) p)
                ∙ or_assoc b.through (level (named work t) p) (some_through work p (rest (k + 1)))
                ∙ ap (λ (l : List Entry). b.through || some_through work p l) (sym f)
                ∙ w.through;
          }

      -- one that leaves
      pub walking_no : live_at work p t ≡ false → Walking xs left b (k + 1)
      unfolding keep
      walking_no e =
          let f : rest k ≡ rest (k + 1) = more ∙ keep_no (live_at work p) t (rows_from entries xs₀ (k + 1) (used - (k + 1))) e in
          record {
            short = omega (arith, w.short);
            within = omega arith;
            going = going_skip entries (keeping (live_at work p)) w.going t h q (keep_no (live_at work p) t [] e);
            adding = rw f at w.adding;
            through = ap (λ (l : List Entry). b.through || some_through work p l) (sym f) ∙ w.through;
          }

    -- the end
    pub walked : used ≤ k → 3 * used ≤ length xs₀ → Staying work p xs₀ used left b xs
    unfolding keep some_through
    walked h f =
        let e : rest k ≡ [] = ap (keep (live_at work p)) (rows-done entries xs₀ used k h) in
        let d = done entries (keeping (live_at work p)) w.going h refl (omega (arith, w.short, w.within)) f in
        record {
          number = d.0;
          within = omega (arith, w.short, w.within);
          list = d.1;
          sums = pair_eq (λ (side : Side). at side (adding_done (passes_under work p) all w.adding e side));
          through = sym (or_false b.through) ∙ sym (ap (λ (l : List Entry). b.through || some_through work p l) e) ∙ w.through;
          near = w.adding.near;
        }
      where
        at : (side : Side) → part side b.sums ≡ Over (amount side) (passes_under work p) all → part side b.sums ≡ part side (sums_at work p all)
        at subject q = q
        at clip q = q

-- ---- what a node knows

module _ {work : List ℤ} {p : Point} where
  pub known : {xs : List ℤ} {used left : ℕ} {b : Below} {ys : List ℤ} → Staying work p xs used left b ys
      → Known work p (keep (live_at work p) (rows_from entries xs 0 used)) (cond b.through 0 left) (cond b.through no_sums b.sums)
  known {left} {b} s =
      record {
        number = ap₂ (λ (c : Bool) (n : ℕ). cond c 0 n) s.through s.number;
        sums = ap₂ (λ (c : Bool) (u : Sums). cond c no_sums u) s.through s.sums;
        near = go b.through s.near;
      }
    where
      go : (c : Bool) → ((side : Side) → nat_abs (part side b.sums) ≤ left * 2147483648)
          → (side : Side) → nat_abs (part side (cond c no_sums b.sums)) ≤ cond c 0 left * 2147483648
      go true h subject = omega arith
      go true h clip = omega arith
      go false h side = h side

  pub known-none : Known work p [] 0 no_sums
  unfolding some_through Over Sum
  known-none = record { number = refl; sums = refl; near = near }
    where
      near : (side : Side) → nat_abs (part side no_sums) ≤ 0 * 2147483648
      near subject = omega arith
      near clip = omega arith

-- ---- what that tells of an edge that starts there

-- the first of the entries in use are those that stayed
first : (ys : List ℤ) (K L : List Entry) {r : ℕ} → r ≡ length (K ++ L) → rows_from entries ys 0 r ≡ K ++ L → rows_from entries ys 0 (length K) ≡ K
first ys K L {r} n q =
    let m : r ≡ length K + length L = omega (arith, length-append K L) in
    sym (take_at (rows_from entries ys 0 (length K)) (rows_from entries ys (0 + length K) (length L)) (length K) (length-rows entries ys 0 (length K)))
    ∙ ap (take (length K)) (sym (rows_append entries ys 0 (length K) (length L)) ∙ ap (rows_from entries ys 0) (sym m) ∙ q)
    ∙ take_at K L (length K) refl

module _ (work : List ℤ) (e : Segment) where
  apart : (K : List Entry) → some_through work e.a K ≡ false → All (λ t. level (named work t) e.a ≡ false) K
  unfolding some_through
  apart [] z = none
  apart (t ∷ K) z =
      let n = neither (level (named work t) e.a) (some_through work e.a K) z in
      also n.0 (apart K n.1)

  sums_are : {K : List Entry} → All (λ t. live_at work e.a t ≡ true) K → some_through work e.a K ≡ false → sums_at work e.a K ≡ sums_of work e K
  sums_are {K} l z = pair_eq side
    where
      each : All (λ t. passes_under work e.a t ≡ below (named work t) e) K
      each = all_map (λ t m. sym (passing (named work t) e m.0 m.1)) (all_both l (apart K z))

      side : (side : Side) → part side (sums_at work e.a K) ≡ part side (sums_of work e K)
      side subject = over-same (amount subject) each
      side clip = over-same (amount clip) each

  of_known : {ys : List ℤ} {K : List Entry} {k : ℕ} {s : Sums} → Known work e.a K k s → All (λ t. live_at work e.a t ≡ true) K → rows_from entries ys 0 (length K) ≡ K
      → Reached work e ys k s × (k ≤ length K)
  unfolding rows_from Over Sum
  of_known {ys} {K} {k} {s} f l q = go (some_through work e.a K) refl f.number f.sums
    where
      go : (c : Bool) → some_through work e.a K ≡ c → k ≡ cond c 0 (length K) → s ≡ cond c no_sums (sums_at work e.a K) → Reached work e ys k s × (k ≤ length K)
      go true z n m = (record { sums = m ∙ ap (λ (j : ℕ). sums_of work e (rows_from entries ys 0 j)) (sym n); near = f.near }, omega arith)
      go false z n m = (record { sums = m ∙ sums_are l z ∙ ap (sums_of work e) (sym q) ∙ ap (λ (j : ℕ). sums_of work e (rows_from entries ys 0 j)) (sym n); near = f.near }, omega arith)

  module _ (n : ℕ) (l : List Entry) (i m : ℕ) {room : ℕ} {xs ys : List ℤ} {r k : ℕ} {s : Sums} where
    reached_here : (sorted : Bool) → Holds room xs (arrivals work n sorted l i m e.a) r ys → Known work e.a (stays work sorted l e.a) k s
        → r ≤ room → Reached work e ys k s × (k ≤ r)
    reached_here true h f b =
        let K = keep (live_at work e.a) l in
        let L = keep (live_at work e.a) (entries_from work i (m - i)) in
        let d = of_known f (all_map (λ t w. w.0) (all_keep (live_at work e.a) (all_of {P = λ (t : Entry). t ≡ t} l (λ t. refl)))) (first ys K L h.number (h.rows b)) in
        (d.0, omega (arith, d.1, h.number, length-append K L))
    reached_here false h f b =
        let d = of_known f none (first ys [] (keep (live_at work e.a) (entries_from work 0 n)) h.number (h.rows b)) in
        (d.0, omega (arith, d.1))

-- at a node at p
pub reached : (work : List ℤ) {p : Point} (e : Segment) → p ≡ e.a → (n : ℕ) (l : List Entry) (i m : ℕ) {room : ℕ} {xs ys : List ℤ} {r k : ℕ} {s : Sums} (sorted : Bool)
    → Holds room xs (arrivals work n sorted l i m p) r ys → Known work p (stays work sorted l p) k s → r ≤ room → Reached work e ys k s × (k ≤ r)
reached work e q n l i m {room} {xs} {ys} {r} {k} {s} sorted h f b =
    reached_here work e n l i m sorted (subst (λ (u : Point). Holds room xs (arrivals work n sorted l i m u) r ys) q h) (subst (λ (u : Point). Known work u (stays work sorted l u) k s) q f) b
