-- Which number a run answers: document 01's table ("Input and answer"). 1 to 6 in their order; 7 to 11 as the run meets them. `exactly` says of every number that it is
-- answered exactly when no sentence tested before its own holds and its own does.
use Rattle.std.specs.Prelude.{◌≡◌, Bool, true, false, cond, List, [], map, ◌↔◌, ◌≢◌, ◌⊎◌, eqb, ℤ, length, Result, Ok, Err}
use Rattle.std.proofs.Math.Path.{refl, ap}
use Rattle.std.proofs.Common.{sym, ◌∙◌, subst, inl, inr, ⊎_elim, arith}
use Prim.Native.Nat.{ℕ, zero, suc, ◌-◌}
use borrow.Author.Tests.{eq-eqb, ne_eqb, le-ltb}
use Rattle.whole.specs.Kind.{rows_from}
use Rattle.whole.specs.Total.{same_or}
use Rattle.geom.specs.declared.Segment.{Segment}
use Rattle.geom.specs.Limits.{work_room, mark_room, scan_room}
use Rattle.geom.specs.Rows.{segments}
use Rattle.geom.specs.Tests.{Decides, yes, no, holds, fails}
use Rattle.segm.specs.Forward.{forward, sorted}
use Rattle.split.specs.Look.{look}
use Rattle.checks.specs.declared.Settings.{Settings}
use Rattle.checks.specs.declared.Fault.{Fault}
use Rattle.checks.specs.declared.Fault.TheVariants.{Short, BadSettings, OffGrid, NoLength, BadCount, Open}
use Rattle.checks.specs.Checks.{check_says, fault_of}
use Rattle.checks.specs.Exactly.{exactly as exactly-fault}
use Rattle.overlay.specs.declared.answer.Refusal.TheVariants.{ScanFull}
use Rattle.overlay.specs.Looks.{Ran, settled, radius, joined, look_at, looks_from, ran}
use Rattle.overlay.specs.Outcome.{Lent, Outcome, cleared, finished, swept, unless, outcome}
use Rattle.overlay.specs.Table.{MarksOver, marks_over?, PiecesOver, pieces_over?, TotalLeaves, total_leaves?, StillMarks, still_marks?, TooManyLive, too_many_live?}
use Rattle.demands.specs.Chain.{start, cut, next, Passes}
use Rattle.demands.specs.Exactly.{count-some}
use Rattle.demands.proofs.ExactlyLaws.{marks_of_some, at_marks}
use Rattle.demands.specs.Refusals.{Answers, Checked, Comes, Ends, GoesOn, Met, here, on, met_7, met_10, met_8, met_9, met_11, met_0, by_check, by_first_9, by_look}

module _ (input : List ℤ) (s : Settings) (l : Lent) where
  abbrev L₀ : List Segment
  L₀ = rows_from segments input 0 s.n

-- ---- one look
module _ (marks work scan : ℕ) where
  -- a number is met, or the run goes on
  one-look : (left : ℕ) (L : List Segment) → ((k : ℕ) × Met marks work scan left L k) ⊎ ((left ≢ 0) × GoesOn marks work L)
  one-look left L = go (marks_over? marks L) (still_marks? L) (same_or left 0) (pieces_over? work L) (total_leaves? (sorted (cut L))) (too_many_live? scan L)
    where
      go : {a b c d e : Bool} → Decides (MarksOver marks L) a → Decides (StillMarks L) b → (left ≡ 0) ⊎ (left ≢ 0) → Decides (PiecesOver work L) c → Decides (TotalLeaves (sorted (cut L))) d → Decides (TooManyLive scan L) e
          → ((k : ℕ) × Met marks work scan left L k) ⊎ ((left ≢ 0) × GoesOn marks work L)
      go (yes p) st z pc t v = inl (_, met_7 (omega arith))
      go (no n) (yes st) (inl z) pc t v = inl (_, met_10 (λ q. omega arith) (omega arith) (omega arith))
      go (no n) (yes st) (inr z) (yes pc) t v = inl (_, met_8 (λ q. omega arith) (omega arith) (λ q. omega arith) (omega arith))
      go (no n) (yes st) (inr z) (no m) (yes t) v = inl (_, met_9 (λ q. omega arith) (omega arith) (λ q. omega arith) (λ q. omega arith) t)
      go (no n) (yes st) (inr z) (no m) (no t) v = inr (z, record { yields = omega arith; not_7 = λ q. omega arith; not_8 = λ q. omega arith; not_9 = t })
      go (no n) (no st) z pc t (yes v) = inl (_, met_11 (λ q. omega arith) v)
      go (no n) (no st) z pc t (no v) = inl (_, met_0 (λ q. omega arith) v)

  ends-here : {left : ℕ} {L : List Segment} → (k : ℕ) × Met marks work scan left L k → (Ends marks work scan) left L
  ends-here {left} {L} m = record { rest = left; list = L; comes = here; number = m.0; met = m.1 }

  looks-end : (left : ℕ) (L : List Segment) → (Ends marks work scan) left L
  looks-end zero L = ⊎_elim ends-here (λ g. absurd (g.0 refl)) (one-look zero L)
  looks-end (suc left) L =
      ⊎_elim ends-here
      (λ g. let e = looks-end left (next L) in record { rest = e.rest; list = e.list; comes = on g.1 e.comes; number = e.number; met = e.met })
      (one-look (suc left) L)

-- ---- the run

some_marks : (L : List Segment) → StillMarks L → look radius L ≢ []
some_marks L h e = let z = ap length e in omega arith

module _ (marks work : ℕ) where
  as_look : (left made : ℕ) (L : List Segment) → (f : List Segment → Ran) × (looks_from marks work left made L ≡ look_at marks work (eqb left 0) made L f)
  unfolding looks_from
  as_look zero made L = (_, refl)
  as_look (suc left) made L = (looks_from marks work left (suc made), rw (ne_eqb (suc left) 0 (λ e. omega arith)))

  carried : {left rest : ℕ} {L K : List Segment} → Comes marks work left L rest K → (made : ℕ) → (n : ℕ) × (looks_from marks work left made L ≡ looks_from marks work rest n K)
  unfolding looks_from
  carried here made = (made, refl)
  carried {left = suc left} {L = L} (on g c) made =
      let r = carried c (suc made) in
      let fits : Passes marks work L = record { marks = omega (arith, g.not_7); pieces = omega (arith, g.not_8); totals = fails (total_leaves? (sorted (cut L))) g.not_9 } in
      (r.0, at_marks marks work made (looks_from marks work left (suc made)) L (some_marks L g.yields) fits ∙ r.1)

  rests : (final : Bool) (made : ℕ) (L : List Segment) (f : List Segment → Ran) → ¬ StillMarks L → look_at marks work final made L f ≡ cond (eqb (length L) 0) (settled L made) (settled L (suc made))
  unfolding look_at
  rests final made L f n = rw (le-ltb marks (length (look radius L)) (omega arith), eq-eqb (length (look radius L)) 0 (omega arith))

  module _ (s : Settings) (l : Lent) where
    abbrev scan : ℕ
    scan = scan_room (length l.scan)

    abbrev number_of : Ran → ℕ
    number_of r = (swept s l r).answer.number

    either : {k : ℕ} (b : Bool) (r q : Ran) → number_of r ≡ k → number_of q ≡ k → number_of (cond b r q) ≡ k
    either true r q e f = e
    either false r q e f = f

    abbrev swept_number : List Segment → ℕ → Bool → ℕ
    swept_number L n b = (cond b (cleared l ScanFull) (finished s l L n)).answer.number

    swept_11 : (L : List Segment) (n : ℕ) → TooManyLive scan L → number_of (settled L n) ≡ 11
    unfolding swept
    swept_11 L n h = ap (swept_number L n) (holds (too_many_live? scan L) h)

    swept_0 : (L : List Segment) (n : ℕ) → ¬ TooManyLive scan L → number_of (settled L n) ≡ 0
    unfolding swept finished
    swept_0 L n h = ap (swept_number L n) (fails (too_many_live? scan L) h)

    at_look : {left k : ℕ} {L : List Segment} (made : ℕ) (f : List Segment → Ran) → Met marks work scan left L k → number_of (look_at marks work (eqb left 0) made L f) ≡ k
    unfolding look_at joined swept
    at_look {L = L} made f (met_7 h) = rw (count-some L (marks_of_some (some_marks L (omega arith))), holds (marks_over? marks L) (omega arith))
    at_look {left = left} {L = L} made f (met_10 n h z) =
        rw (count-some L (marks_of_some (some_marks L h)), fails (marks_over? marks L) (λ q. omega arith), count-some (look radius L) (some_marks L h), eq-eqb left 0 (omega arith))
    at_look {left = left} {L = L} made f (met_8 n h z p) =
        rw (count-some L (marks_of_some (some_marks L h)), fails (marks_over? marks L) (λ q. omega arith), count-some (look radius L) (some_marks L h), ne_eqb left 0 (λ q. omega arith), holds (pieces_over? work L) (omega arith))
    at_look {left = left} {L = L} made f (met_9 n h z p t) =
        rw (count-some L (marks_of_some (some_marks L h)), fails (marks_over? marks L) (λ q. omega arith), count-some (look radius L) (some_marks L h), ne_eqb left 0 (λ q. omega arith), fails (pieces_over? work L) (λ q. omega arith), holds (total_leaves? (sorted (cut L))) t)
    at_look {left = left} {L = L} made f (met_11 n t) =
        ap number_of (rests (eqb left 0) made L f n) ∙ either (eqb (length L) 0) (settled L made) (settled L (suc made)) (swept_11 L made t) (swept_11 L (suc made) t)
    at_look {left = left} {L = L} made f (met_0 n t) =
        ap number_of (rests (eqb left 0) made L f n) ∙ either (eqb (length L) 0) (settled L made) (settled L (suc made)) (swept_0 L made t) (swept_0 L (suc made) t)

    met_number : {left rest k : ℕ} {L K : List Segment} → Comes marks work left L rest K → Met marks work scan rest K k → (made : ℕ) → number_of (looks_from marks work left made L) ≡ k
    met_number {rest = rest} {K = K} c m made =
        let r = carried c made in
        let v = as_look rest r.0 K in
        ap number_of (r.1 ∙ v.1) ∙ at_look r.0 v.0 m

-- ---- the outcome
module _ (input : List ℤ) (s : Settings) (l : Lent) where
  fault-number : (f : Fault) (r : Outcome) → (unless (Err f) l r).answer.number ≡ check_says (Err f)
  unfolding unless
  fault-number Short r = refl
  fault-number BadSettings r = refl
  fault-number OffGrid r = refl
  fault-number NoLength r = refl
  fault-number BadCount r = refl
  fault-number Open r = refl

  fault_is : (f : Result (Unit {0}) Fault) → Checked input s l f → fault_of input s (length l.work) (length l.masks) ≡ f
  fault_is f = (exactly-fault input s (length l.work) (length l.masks) f).1

  answered : {k : ℕ} → Answers input s l k → (outcome input s l).answer.number ≡ k
  unfolding outcome unless ran joined swept
  answered (by_check f g) = rw (fault_is (Err f) g) (fault-number f (cleared l ScanFull))
  answered (by_first_9 g t) = rw (fault_is (Ok tt) g, holds (total_leaves? (sorted (map forward (L₀ input s l)))) t)
  answered (by_look g t c m) = rw (fault_is (Ok tt) g, fails (total_leaves? (sorted (map forward (L₀ input s l)))) t) (met_number _ _ s l c m 0)

  some-answer : (f : Result (Unit {0}) Fault) → Checked input s l f → (k : ℕ) × Answers input s l k
  some-answer (Ok tt) g = go (total_leaves? (sorted (map forward (L₀ input s l))))
    where
      go : {b : Bool} → Decides (TotalLeaves (sorted (map forward (L₀ input s l)))) b → (k : ℕ) × Answers input s l k
      go (yes t) = (9, by_first_9 g t)
      go (no t) =
          let e = looks-end (mark_room (length l.marks)) (work_room (length l.work)) (scan_room (length l.scan)) (s.budget - 1) (start (L₀ input s l)) in
          (e.number, by_look g t e.comes e.met)
  some-answer (Err f) g = (check_says (Err f), by_check f g)

  -- THE THEOREM
  pub exactly : (k : ℕ) → ((outcome input s l).answer.number ≡ k) ↔ Answers input s l k
  exactly k = (forth, answered)
    where
      forth : (outcome input s l).answer.number ≡ k → Answers input s l k
      forth e =
          let f = fault_of input s (length l.work) (length l.masks) in
          let a = some-answer f ((exactly-fault input s (length l.work) (length l.masks) f).0 refl) in
          subst (Answers input s l) (sym (answered a.1) ∙ e) a.1
