-- From the tests of `fill` to its outcome: each refusal, what is known where none is given, and what the sweep then leaves.
use mathlib.Core.Path.{◌≡◌, sym, ap, ap₂, ◌∙◌}
use mathlib.Core.Bool.{true, false, ◌||◌}
use mathlib.Core.List.{List, ◌++◌}
use Prim.Native.Nat.{ℕ, ◌+◌, ◌*◌, ◌≤◌}
use native.Mathlib.Omega.{arith}
use lib.Dec.{ltb}
use lib.IntN.{ℤ, pos}
use lib.ListN.{length, drop, replicate, length-map, length-replicate}
use lib.Seq.{sets, sets-eq}
use borrow.Author.Tests.{ltb-false, le-ltb}
use Rattle.std.specs.Prelude.{Result, Err, ⊤, is_err}
use Rattle.whole.specs.Kind.{rows_from}
use Rattle.whole.proofs.TestLaws.{neither}
use Rattle.geom.specs.declared.Segment.{Segment}
use Rattle.geom.specs.Limits.{segment_limit, scan_room}
use Rattle.geom.specs.Rows.{segments}
use Rattle.build.specs.declared.sweep.FillError.{FillError}
use Rattle.build.specs.declared.sweep.FillError.TheVariants.{Short, BadRule, OffGrid, NoLength, BadCount}
use Rattle.faults.specs.Faults.{some, is_off, is_point, has_least}
use Rattle.faults.proofs.Some.{each_on_grid}
use Rattle.fills.proofs.Numbers.{number_below_four}
use Rattle.rules.proofs.Numbers.{number_below_seven}
use Rattle.masks.specs.declared.Rules.{Rules}
use Rattle.masks.specs.Rules.{fill_number, overlay_number}
use Rattle.scan.specs.Masks.{byte_of, bytes}
use Rattle.scan.specs.Scan.{OnGrids}
use Rattle.build.specs.Sweep.{Swept}
use Rattle.build.proofs.FillLaws.{full_number, done_number}
use Rattle.build.specs.Fill.{is_short, is_bad, said, fill_says, zeros, no_masks, swept, fill_said}

-- ---- what a test that fails says

pub long : (n work masks : ℕ) → is_short n work masks ≡ false → (6 * n ≤ work) × (n ≤ 2048) × (n ≤ masks)
unfolding is_short
long n work masks e =
    let f = neither (ltb segment_limit n) (ltb work (6 * n) || ltb masks n) e in
    let g = neither (ltb work (6 * n)) (ltb masks n) f.1 in
    (ltb-false work (6 * n) g.0, ltb-false segment_limit n f.0, ltb-false masks n g.1)

pub ruled : (r : Rules) {fill rule : ℕ} → fill_number r ≡ fill → overlay_number r ≡ rule → is_bad fill rule ≡ false
unfolding is_bad
ruled r {fill} {rule} f q = rw (le-ltb 3 fill (omega (arith, number_below_four r.fill)), le-ltb 6 rule (omega (arith, number_below_seven r.overlay)))

pub on_grids : (work : List ℤ) (n : ℕ) → some is_off (rows_from segments work 0 n) ≡ false → OnGrids work n
on_grids work n e = record { each = each_on_grid work n e }

-- ---- the outcome, refusal by refusal

module _ (work : List ℤ) (n fill rule : ℕ) (scan : List ℤ) (masks : List ℕ) where
  abbrev L : List Segment
  L = rows_from segments work 0 n

  pub refused_1 : is_short n (length work) (length masks) ≡ true → fill_says (Err Short) scan masks ≡ fill_said work n fill rule scan masks
  unfolding fill_said
  refused_1 e = rw e

  module _ (a : is_short n (length work) (length masks) ≡ false) where
    pub refused_2 : is_bad fill rule ≡ true → fill_says (Err BadRule) scan masks ≡ fill_said work n fill rule scan masks
    unfolding fill_said
    refused_2 e = rw (a, e)

    module _ (b : is_bad fill rule ≡ false) where
      pub refused_3 : some is_off L ≡ true → fill_says (Err OffGrid) scan masks ≡ fill_said work n fill rule scan masks
      unfolding fill_said
      refused_3 e = rw (a, b, e)

      module _ (c : some is_off L ≡ false) where
        pub refused_4 : some is_point L ≡ true → fill_says (Err NoLength) scan masks ≡ fill_said work n fill rule scan masks
        unfolding fill_said
        refused_4 e = rw (a, b, c, e)

        module _ (d : some is_point L ≡ false) where
          pub refused_5 : some has_least L ≡ true → fill_says (Err BadCount) scan masks ≡ fill_said work n fill rule scan masks
          unfolding fill_said
          refused_5 e = rw (a, b, c, d, e)

          pub not_refused : some has_least L ≡ false → fill_said work n fill rule scan masks ≡ swept L fill rule scan masks
          unfolding fill_said
          not_refused e = rw (a, b, c, d, e)

-- ---- what the sweep leaves

module _
    (masks : List ℕ) {L : List Segment} {fill rule : ℕ} {scan ys xs : List ℤ} {zs ns : List ℕ} {r : Result ⊤ FillError} (clear : zs ≡ no_masks masks)
    (s : Swept fill rule (scan_room (length scan)) L scan zs r ys ns) (x : xs ≡ replicate (length ys) (pos 0))
  where
    no_entry : xs ≡ zeros scan
    no_entry = x ∙ ap (λ (k : ℕ). replicate k (pos 0)) s.scan_kept

    pub left-full : is_err r ≡ true → {ms : List ℕ} → ms ≡ replicate (length ns) 0 → fill_says r xs ms ≡ swept L fill rule scan masks
    unfolding swept
    left-full e {ms} m =
        let k : length ns ≡ length masks = s.masks_kept ∙ ap length clear ∙ length-replicate {A = ℕ} (length masks) 0 in
        rw (sym s.answer ∙ e) (rw (full_number r s.error e) (ap₂ (said 11) no_entry (m ∙ ap (λ (k : ℕ). replicate k 0) k)))

    pub left-bytes : length L ≤ length masks → is_err r ≡ false → fill_says r xs ns ≡ swept L fill rule scan masks
    unfolding swept
    left-bytes h e =
        let B = bytes fill rule L in
        let k : length B ≡ length L = length-map L (byte_of fill rule L) in
        let f : 0 + length B ≤ length (no_masks masks) = omega (arith, k, length-replicate {A = ℕ} (length masks) 0) in
        let n : 0 + length B ≡ length L = omega arith in
        rw (sym s.answer ∙ e)
        (rw (done_number r e) (ap₂ (said 0) no_entry (s.bytes_are e ∙ ap (λ (l : List ℕ). sets l 0 B) clear ∙ sets-eq B (no_masks masks) 0 f ∙ ap (λ (m : ℕ). B ++ drop m (no_masks masks)) n)))
