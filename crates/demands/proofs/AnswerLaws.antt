-- What answer 0 says of the outcome of a run: the checks 1 to 6 passed, the looks settled, and the work and mask lists begin with the edges and their bytes.
use Rattle.std.specs.Prelude.{◌≡◌, Bool, cond, List, ℤ, Result, Ok, Err}
use Rattle.std.proofs.Math.Path.{refl, sym, ap, ap₂}
use Rattle.std.proofs.Common.{◌∙◌, subst, arith}
use Rattle.std.proofs.Math.Bool.{true, false}
use Prim.Native.Nat.{ℕ}
use Rattle.std.proofs.Math.ListN.{length, take}
use Rattle.std.proofs.lemmas.List.{length-map}
use Rattle.std.proofs.Math.Seq.{take-append_seam}
use Rattle.whole.proofs.KindLaws.{length-rows, rows-front}
use Rattle.geom.specs.declared.Segment.{Segment}
use Rattle.geom.specs.Limits.{work_room, mark_room, scan_room}
use Rattle.geom.specs.Rows.{segments}
use Rattle.scan.specs.Masks.{byte_of, bytes, crowded}
use Rattle.checks.specs.declared.Settings.{Settings}
use Rattle.checks.specs.declared.Fault.{Fault}
use Rattle.checks.specs.declared.Fault.TheVariants.{Short, BadSettings, OffGrid, NoLength, BadCount, Open}
use Rattle.checks.specs.Checks.{fault_of}
use Rattle.checks.specs.Accepted.{Accepted, accepted}
use Rattle.overlay.specs.declared.answer.Refusal.TheVariants.{ScanFull}
use Rattle.overlay.specs.Numbers.{answer0}
use Rattle.overlay.proofs.NumbersLaws.{not_zero}
use Rattle.overlay.specs.Looks.{Ran, settled, refused, ran}
use Rattle.overlay.specs.Outcome.{Lent, Outcome, zeros, cleared, finished, swept, unless, outcome}
use Rattle.demands.specs.Chain.{Chain}
use Rattle.demands.proofs.ExactlyLaws.{settles_exactly}
use Rattle.demands.proofs.Lengths.{start_fits, looks_fit}
use Rattle.demands.specs.Answer.{Answered, edges, given}

-- ---- the sweep of what the looks come to

record Swept (s : Settings) (l : Lent) (r : Ran) (o : Outcome) (m looks : ℕ) : Type 0 where
  pub list : List Segment
  pub ran : r ≡ settled list looks
  pub number : length list ≡ m
  pub outcome : o ≡ finished s l list looks

module _ (s : Settings) (l : Lent) (m looks : ℕ) where
  swept-settled : (r : Ran) → (swept s l r).answer ≡ answer0 m looks → Swept s l r (swept s l r) m looks
  unfolding swept finished
  swept-settled (refused r) e = absurd (not_zero r (ap (λ t. t.number) e))
  swept-settled (settled L k) e = go (crowded (scan_room (length l.scan)) L) e
    where
      go : (b : Bool) → (cond b (cleared l ScanFull) (finished s l L k)).answer ≡ answer0 m looks → Swept s l (settled L k) (cond b (cleared l ScanFull) (finished s l L k)) m looks
      go true h = absurd (let z = ap (λ t. t.number) h in omega arith)
      go false h = let n = ap (λ t. t.looks) h in record { list = L; ran = ap (settled L) n; number = ap (λ t. t.segments) h; outcome = ap (finished s l L) n }

-- ---- the outcome
module _ (input : List ℤ) (s : Settings) (l : Lent) (m looks : ℕ) where
  abbrev result : Ran
  result = ran (mark_room (length l.marks)) (work_room (length l.work)) s.budget (given input s)

  list-given : (o : Outcome) (w : Swept s l result o m looks) → edges o m ≡ w.list
  unfolding finished
  list-given o w = ap₂ edges w.outcome (sym w.number) ∙ rows-front segments (zeros l.work) w.list

  bytes-given : (o : Outcome) (w : Swept s l result o m looks) → take m o.lists.masks ≡ bytes s.fill s.rule w.list
  unfolding finished
  bytes-given o w =
      let k : m ≡ length (bytes s.fill s.rule w.list) = sym w.number ∙ sym (length-map w.list (byte_of s.fill s.rule w.list)) in
      ap₂ (λ x n. take n x.lists.masks) w.outcome k ∙ take-append_seam (bytes s.fill s.rule w.list) _

  given_by : (o : Outcome) → Accepted input s (length l.work) (length l.masks) → Swept s l result o m looks → Answered input s l o m looks
  given_by o a w =
      let e = list-given o w in
      let L = given input s in
      let r = (settles_exactly _ _ s.budget L w.list looks).0 w.ran in
      let fits = looks_fit r.0.chain r.2 (omega (arith, start_fits L, length-rows segments input 0 s.n, a.roomy.room)) in
      record {
        accepted = a;
        chain = subst (λ K. Chain (given input s) K looks) (sym e) r.0;
        room = omega (arith, fits, w.number);
        bytes = bytes-given o w ∙ ap (bytes s.fill s.rule) (sym e);
      }

  unless-sound : (f : Result (Unit {0}) Fault) → fault_of input s (length l.work) (length l.masks) ≡ f → (unless f l (swept s l result)).answer ≡ answer0 m looks
      → Answered input s l (unless f l (swept s l result)) m looks
  unfolding unless
  unless-sound (Ok tt) p e =
      given_by (swept s l result) (accepted input s (length l.work) (length l.masks) p) (swept-settled s l m looks result e)
  unless-sound (Err Short) p e = absurd (let z = ap (λ t. t.number) e in omega arith)
  unless-sound (Err BadSettings) p e = absurd (let z = ap (λ t. t.number) e in omega arith)
  unless-sound (Err OffGrid) p e = absurd (let z = ap (λ t. t.number) e in omega arith)
  unless-sound (Err NoLength) p e = absurd (let z = ap (λ t. t.number) e in omega arith)
  unless-sound (Err BadCount) p e = absurd (let z = ap (λ t. t.number) e in omega arith)
  unless-sound (Err Open) p e = absurd (let z = ap (λ t. t.number) e in omega arith)

  -- THE THEOREM
  pub answered : (outcome input s l).answer ≡ answer0 m looks → Answered input s l (outcome input s l) m looks
  unfolding outcome
  answered e = unless-sound (fault_of input s (length l.work) (length l.masks)) refl e
