-- How a run ends: all lists cleared, or the sweep of a settled list, which a list that keeps what every list keeps refuses with 11 only.
use mathlib.Core.Path.{◌≡◌, sym, ap, ap₂, ◌∙◌}
use mathlib.Core.Bool.{Bool, true, false, cond}
use mathlib.Core.List.{List, ◌++◌}
use Prim.Native.Nat.{ℕ, ◌*◌, ◌≤◌}
use native.Mathlib.Omega.{arith}
use lib.IntN.{ℤ, pos}
use lib.ListN.{length, drop, length-replicate}
use borrow.Author.Tests.{le-ltb}
use Rattle.whole.specs.Kind.{rows_from, front}
use Rattle.whole.proofs.KindLaws.{length-rows}
use Rattle.whole.proofs.SumLaws.{all_map}
use Rattle.geom.specs.declared.Segment.{Segment}
use Rattle.geom.specs.Limits.{segment_limit, work_room, scan_room}
use Rattle.geom.specs.Rows.{segments}
use Rattle.checks.specs.declared.Settings.{Settings}
use Rattle.checks.specs.Accepted.{InRange}
use Rattle.std.specs.Prelude.{Result, Ok, ⊤, is_err}
use Rattle.build.specs.declared.sweep.FillError.{FillError}
use Rattle.scan.specs.Masks.{bytes, crowded}
use Rattle.build.specs.Fill as fill
use Rattle.build.proofs.FillLaws.{done_number, one_case}
use Rattle.overlay.specs.declared.answer.Refusal.TheVariants.{ScanFull as Crowded}
use Rattle.overlay.specs.Numbers.{answer0}
use Rattle.overlay.specs.Looks.{settled}
use Rattle.overlay.specs.Outcome.{Lent, Outcome, zeros, no_masks, cleared, finished, swept}
use Rattle.settle.specs.Kept.{Kept}
use Rattle.ending.specs.Lent.{lent, ended}
use Rattle.settle.proofs.Sound.{clear, sound_on, sound-long, sound-near}

module _ (s : Settings) (l : Lent) (k looks : ℕ) (range : InRange s) (kept : Kept l.work k) (room : work_room (length l.work) ≤ length l.masks) where
  abbrev L : List Segment
  L = rows_from segments l.work 0 k

  abbrev full : Bool
  full = crowded (scan_room (length l.scan)) L

  abbrev swept_by : Bool → fill.Said
  swept_by b = cond b (fill.said 11 (zeros l.scan) (no_masks l.masks)) (fill.said 0 (zeros l.scan) (bytes s.fill s.rule L ++ drop (length L) (no_masks l.masks)))

  filled_is : fill.fill_said l.work k s.fill s.rule l.scan l.masks ≡ swept_by full
  unfolding fill.fill_said fill.is_short fill.is_bad fill.swept
  filled_is =
      let few = le-ltb segment_limit k (omega (arith, kept.room)) in
      let rows = le-ltb (length l.work) (6 * k) (omega (arith, kept.room)) in
      let masks = le-ltb (length l.masks) k (omega (arith, kept.room, room)) in
      rw (few, rows, masks, le-ltb 3 s.fill range.fill, le-ltb 6 s.rule range.rule, clear (all_map (λ v. sound_on) kept.sound), clear (all_map (λ v. sound-long) kept.sound), clear (all_map (λ v. sound-near) kept.sound))

  module _ (r : Result ⊤ FillError) {sc : List ℤ} {ms : List ℕ} (e : fill.fill_says r sc ms ≡ fill.fill_said l.work k s.fill s.rule l.scan l.masks) where
    pub settles : {o : Outcome} {w m : List ℤ} → o.answer ≡ answer0 k looks → o.lists ≡ lent w m sc ms → is_err r ≡ false → w ≡ front segments (zeros l.work) L → m ≡ zeros l.marks
        → o ≡ swept s l (settled L looks)
    unfolding swept finished
    settles {w = w} {m = m} p q d f g = ap₂ (λ a t. record { answer = a; lists = t }) p q ∙ go full (e ∙ filled_is)
      where
        go : (b : Bool) → fill.fill_says r sc ms ≡ swept_by b → ended (Ok (record { segments = k; looks = looks })) w m sc ms ≡ cond b (cleared l Crowded) (finished s l L looks)
        go true h = let q : ◌≡◌ {A = ℕ} 0 11 = sym (done_number r d) ∙ ap (λ o. o.answer) h in absurd (omega arith)
        go false h = rw (f, g, ap (λ o. o.scan) h, ap (λ o. o.masks) h, length-rows segments l.work 0 k)

    pub refuses_11 : is_err r ≡ true → cleared (lent l.work l.marks sc ms) Crowded ≡ swept s l (settled L looks)
    unfolding swept
    refuses_11 t = go full (e ∙ filled_is)
      where
        go : (b : Bool) → fill.fill_says r sc ms ≡ swept_by b → cleared (lent l.work l.marks sc ms) Crowded ≡ cond b (cleared l Crowded) (finished s l L looks)
        go true h =
            let scans = ap (λ o. length o.scan) h ∙ length-replicate (length l.scan) (pos 0) in
            let bytes = ap (λ o. length o.masks) h ∙ length-replicate (length l.masks) 0 in
            rw (scans, bytes)
        go false h = let z : ◌≡◌ {A = Bool} true false = sym t ∙ ap is_err (one_case r (Ok tt) (ap (λ o. o.answer) h)) in cc
