-- The chain of lists that "The run" makes: the list before each look, each from the one before it, down to a list that is settled.
use Rattle.std.specs.Prelude.{◌≡◌, refl, Bool, cond, List, [], ◌∷◌, map, ◌≢◌, ltb, eqb, length}
use Rattle.std.proofs.Common.{sym, ap, ◌∙◌, subst, arith, eqb-true, ltb-false}
use Rattle.std.proofs.Math.Bool.{true, false}
use Prim.Native.Nat.{ℕ, zero, suc, ◌+◌, ◌-◌}
use Rattle.geom.specs.declared.Segment.{Segment}
use Rattle.segm.specs.Forward.{forward, sorted}
use Rattle.segm.specs.Merge.{merged, too_big}
use Rattle.split.specs.Look.{look_from, look, tidy}
use Rattle.whole.specs.Total.{clash}
use Rattle.split.specs.declared.answer.Mark.{Mark}
use Rattle.overlay.specs.declared.answer.Refusal.TheVariants.{MarksFull, WorkFull, TooBig, Unsettled}
use Rattle.overlay.specs.Looks.{Ran, settled, refused, radius, joined, look_at, looks_from, ran}
use Rattle.demands.specs.Chain.{Made, Chain, Looks, Step, cut, next, start, empty, done, again, no_look, no_mark_lem, some_marks}

-- ---- the run makes such a chain

nothing : {A : Type 0} (L : List A) → eqb (length L) 0 ≡ true → L ≡ []
nothing [] e = refl
nothing (t ∷ L) e = let z = eqb-true (length (t ∷ L)) 0 e in absurd (omega arith)

something : {A : Type 0} (L : List A) → eqb (length L) 0 ≡ false → L ≢ []
something L e h = clash (ap (λ K. eqb (length K) 0) h) e

pub joined_step : (K J : List Segment) (f : List Segment → Ran) (looks : ℕ) → joined K f ≡ settled J looks → (too_big (sorted K) ≡ false) × (f (merged (sorted K)) ≡ settled J looks)
unfolding joined
joined_step K J f looks e = go (too_big (sorted K)) e
  where
    go : (b : Bool) → cond b (refused TooBig) (f (merged (sorted K))) ≡ settled J looks → (b ≡ false) × (f (merged (sorted K)) ≡ settled J looks)
    go true h = absurd (cc)
    go false h = (refl, h)

pub step : (room work : ℕ) (final : Bool) (made : ℕ) (L : List Segment) (f : List Segment → Ran) (K : List Segment) (looks : ℕ)
    → look_at room work final made L f ≡ settled K looks → Step room work final made L f K looks
unfolding look_at
step room work final made L f K looks e =
    go (eqb (length L) 0) (ltb room (length ms)) (eqb (length ms) 0) final (ltb work (length L + length (tidy ms))) refl refl refl refl e
  where
    ms : List Mark
    ms = look radius L

    go : (b c d g h : Bool) → eqb (length L) 0 ≡ b → ltb room (length ms) ≡ c → eqb (length ms) 0 ≡ d → ltb work (length L + length (tidy ms)) ≡ h
        → cond b (settled L made) (cond c (refused MarksFull) (cond d (settled L (suc made)) (cond g (refused Unsettled) (cond h (refused WorkFull) (joined (cut L) f))))) ≡ settled K looks
        → Step room work g made L f K looks
    go true c d g h p q r t e = no_look (nothing L p) (cc) (cc)
    go false true d g h p q r t e = absurd (cc)
    go false false true g h p q r t e = no_mark_lem (something L p) (nothing ms r) (cc) (cc)
    go false false false true h p q r t e = absurd (cc)
    go false false false false true p q r t e = absurd (cc)
    go false false false false false p q r t e =
        let j = joined_step (cut L) K f looks e in
        some_marks (something ms r) refl (record { marks = ltb-false room (length ms) q; pieces = omega (arith, ltb-false work (length L + length (tidy ms)) t); totals = j.0 }) (cc j.1)

add-look : {room work : ℕ} {final : Bool} {L K : List Segment} {f : List Segment → Ran} {made looks : ℕ} → Step room work final made L f K looks
    → (f (next L) ≡ settled K looks → Made (next L) K (suc made) looks) → Made L K made looks
add-look {L = L} (no_look h k m) more = ([], subst (Looks L []) k (subst (λ M. Looks M [] M) (sym h) empty), omega (arith, m))
add-look {L = L} (no_mark_lem n h k m) more = (L ∷ [], subst (Looks L (L ∷ [])) k (done n h), omega (arith, m))
add-look {L = L} (some_marks n g p e) more = let m = more e in (L ∷ m.0, again n m.1, omega (arith, m.2))

module _ (room work : ℕ) where
  made_by : (left made : ℕ) (L K : List Segment) (looks : ℕ) → looks_from room work left made L ≡ settled K looks → Made L K made looks
  unfolding looks_from
  made_by zero made L K looks e = add-look (step room work true made L (λ J. refused Unsettled) K looks e) (λ r. absurd (cc))
  made_by (suc left) made L K looks e =
      add-look (step room work false made L (looks_from room work left (suc made)) K looks e) (made_by left (suc made) (next L) K looks)

  -- THE THEOREM
  pub run_chain : (budget : ℕ) (L K : List Segment) (looks : ℕ) → ran room work budget L ≡ settled K looks → Chain L K looks
  unfolding ran
  run_chain budget L K looks e =
      let m = made_by (budget - 1) 0 (start L) K looks (joined_step (map forward L) K (looks_from room work (budget - 1) 0) looks e).1 in
      record { lists = m.0; chain = m.1; number = omega (arith, m.2) }

-- ---- and there is one: the list of the first look settles those that follow
pub no_marks : look radius [] ≡ []
unfolding look_from
no_marks = refl

one-looks : {L K J : List Segment} {Ls Ms : List (List Segment)} → Looks L Ls K → Looks L Ms J → (Ls ≡ Ms) × (K ≡ J)
one-looks empty empty = (refl, refl)
one-looks empty (done n h) = absurd (n refl)
one-looks empty (again n h) = absurd (n no_marks)
one-looks (done n h) empty = absurd (n refl)
one-looks (done n h) (done m k) = (refl, refl)
one-looks (done n h) (again m k) = absurd (m h)
one-looks (again n h) empty = absurd (n no_marks)
one-looks (again n h) (done m k) = absurd (n k)
one-looks {L} (again n h) (again m k) = let r = one-looks h k in (ap (λ Ls. L ∷ Ls) r.0, r.1)

pub one-chain : {L K J : List Segment} {n m : ℕ} → Chain L K n → Chain L J m → (K ≡ J) × (n ≡ m)
one-chain c d = let r = one-looks c.chain d.chain in (r.1, sym c.number ∙ ap length r.0 ∙ d.number)
