-- The looks settle exactly if their chain ends and no refusal 7 to 10 stands in the way of it ("Input and answer": none is given otherwise).
use Rattle.std.specs.Prelude.{◌≡◌, Bool, ◌↔◌, ◌≢◌}
use Rattle.std.proofs.Math.Path.{refl, ap}
use Rattle.std.proofs.Common.{◌∙◌, arith}
use Rattle.std.proofs.Math.Bool.{true, false}
use mathlib.Core.List.{List, [], map}
use Prim.Native.Nat.{ℕ, zero, suc, ◌+◌, ◌-◌}
use Rattle.std.proofs.Math.ListN.{length}
use borrow.Author.Tests.{le-ltb}
use Rattle.whole.specs.Total.{clash}
use Rattle.geom.specs.declared.Segment.{Segment}
use Rattle.segm.specs.Forward.{forward, sorted}
use Rattle.segm.specs.Merge.{merged, too_big}
use Rattle.split.specs.declared.answer.Mark.{Mark}
use Rattle.split.specs.Look.{look, tidy}
use Rattle.overlay.specs.declared.answer.Refusal.TheVariants.{Unsettled}
use Rattle.overlay.specs.Looks.{Ran, settled, refused, radius, joined, look_at, looks_from, ran}
use Rattle.demands.specs.Chain.{start, next, Looks, empty, done, again, Chain, Passes, Step, no_look, no_mark_lem, some_marks}
use Rattle.demands.proofs.ChainLaws.{joined_step, step, run_chain, no_marks}
use Rattle.demands.specs.Exactly.{Allowed, at_last, count-some, rests, goes_on}

pub marks_of_some : {L : List Segment} → look radius L ≢ [] → L ≢ []
marks_of_some n e = n (ap (look radius) e ∙ no_marks)

module _ (room work made : ℕ) (f : List Segment → Ran) (L : List Segment) where
  abbrev ms : List Mark
  ms = look radius L

  pub at_marks : look radius L ≢ [] → Passes room work L → look_at room work false made L f ≡ f (next L)
  unfolding look_at joined
  at_marks n p =
      rw (count-some L (marks_of_some n), le-ltb room (length ms) p.marks, count-some ms n, le-ltb work (length L + length (tidy ms)) p.pieces, p.totals)

  -- what a look with marks must have passed
  passed : (final : Bool) {K : List Segment} {looks : ℕ} → look radius L ≢ [] → look_at room work final made L f ≡ settled K looks
      → (final ≡ false) × Passes room work L × (f (next L) ≡ settled K looks)
  passed final {K} {looks} n e = go (step room work final made L f K looks e)
    where
      go : Step room work final made L f K looks → (final ≡ false) × Passes room work L × (f (next L) ≡ settled K looks)
      go (no_look h k m) = absurd (marks_of_some n h)
      go (no_mark_lem h k m r) = absurd (n k)
      go (some_marks h g p r) = (g, p, r)

joined_on : (K : List Segment) (f : List Segment → Ran) → too_big (sorted K) ≡ false → joined K f ≡ f (merged (sorted K))
unfolding joined
joined_on K f e = rw e

-- ---- all looks

at_nothing : (room work left made : ℕ) → looks_from room work left made [] ≡ settled [] made
unfolding looks_from look_at
at_nothing room work zero made = refl
at_nothing room work (suc left) made = refl

module _ (room work : ℕ) where
  looks_come : {L K : List Segment} {Ls : List (List Segment)} → Looks L Ls K → (left made : ℕ) → Allowed room work left L → looks_from room work left made L ≡ settled K (made + length Ls)
  unfolding looks_from
  looks_come empty left made a = at_nothing room work left made ∙ ap (settled []) (omega arith)
  looks_come {L} (done n e) zero made a = at_last room work made (λ K. refused Unsettled) L true n e ∙ ap (settled L) (omega arith)
  looks_come {L} (done n e) (suc left) made a = at_last room work made (looks_from room work left (suc made)) L false n e ∙ ap (settled L) (omega arith)
  looks_come (again n c) left made (rests e) = absurd (n e)
  looks_come {L} {K} (again n c) (suc left) made (goes_on m p a) =
      at_marks room work made (looks_from room work left (suc made)) L n p ∙ looks_come c left (suc made) a ∙ ap (settled K) (omega arith)

  looks_allowed_lem : {L K J : List Segment} {Ls : List (List Segment)} → Looks L Ls K → (left made looks : ℕ) → looks_from room work left made L ≡ settled J looks → Allowed room work left L
  unfolding looks_from
  looks_allowed_lem empty left made looks e = rests no_marks
  looks_allowed_lem (done n h) left made looks e = rests h
  looks_allowed_lem {L} (again n c) zero made looks e = absurd (clash refl (passed room work made (λ K. refused Unsettled) L true n e).0)
  looks_allowed_lem {L} (again n c) (suc left) made looks e =
      let r = passed room work made (looks_from room work left (suc made)) L false n e in
      goes_on n r.1 (looks_allowed_lem c left (suc made) looks r.2)

  -- THE THEOREM
  pub settles_exactly : (budget : ℕ) (L K : List Segment) (looks : ℕ)
      → (ran room work budget L ≡ settled K looks) ↔ (Chain L K looks × (too_big (sorted (map forward L)) ≡ false) × Allowed room work (budget - 1) (start L))
  unfolding ran
  settles_exactly budget L K looks = (forth, back)
    where
      f : List Segment → Ran
      f = looks_from room work (budget - 1) 0

      forth : ran room work budget L ≡ settled K looks → Chain L K looks × (too_big (sorted (map forward L)) ≡ false) × Allowed room work (budget - 1) (start L)
      forth e =
          let c = run_chain room work budget L K looks e in
          let j = joined_step (map forward L) K f looks e in
          (c, j.0, looks_allowed_lem c.chain (budget - 1) 0 looks j.1)

      back : Chain L K looks × (too_big (sorted (map forward L)) ≡ false) × Allowed room work (budget - 1) (start L) → ran room work budget L ≡ settled K looks
      back r = joined_on (map forward L) f r.1 ∙ looks_come r.0.chain (budget - 1) 0 r.2 ∙ ap (settled K) (omega (arith, r.0.number))
