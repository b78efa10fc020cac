-- The pass of `merge_rows`: what holds whenever its loop is tested, and one law for each event (a row joins the group, the group is closed, a total is outside,
-- the end). A law takes what the calls ensure, so that the proof of the function only cites.
use mathlib.Core.Path.{◌≡◌, refl, sym, ap, ◌∙◌, subst}
use mathlib.Core.Bool.{Bool, true, false, cond}
use mathlib.Core.List.{List, [], ◌∷◌}
use Prim.Native.Nat.{ℕ, ◌+◌, ◌*◌, ◌-◌, ◌≤◌, ◌<◌}
use native.Mathlib.Nat.{sub-zero}
use native.Mathlib.Omega.{arith}
use lib.IntN.{ℤ, pos, nat_abs}
use lib.ListN.{length, replicate}
use lib.Seq.{sets}
use Rattle.std.specs.Prelude.{Result, Ok, Err}
use mir.Syntax.{w32}
use mir.Val.{SFits}
use Rattle.whole.specs.Fit.{fits-abs}
use Rattle.whole.specs.Kind.{row_at, put_row, rows_from, front, flat}
use Rattle.whole.proofs.KindLaws.{rows_step, rows-done}
use Rattle.whole.specs.PassLaws.{Going, going_start}
use Rattle.whole.proofs.PassLaws.{going_skip, going_put, done, done_put}
use Rattle.whole.proofs.TestLaws.{neither}
use Rattle.geom.specs.declared.Segment.{Segment}
use Rattle.geom.specs.Rows.{segments}
use Rattle.groups.specs.declared.Group.{Group}
use Rattle.segm.specs.declared.Merged.{Merged}
use Rattle.segm.specs.declared.MergeError.{MergeError}
use Rattle.segm.specs.declared.MergeError.TheVariants.{TooBig}
use Rattle.groups.specs.Group.{is_far, joint, alone, with_one, far_group, is_dropped, left}
use Rattle.segm.specs.Merge.{same_ends, groups, merged, paired, too_big, answer_of, list_of}
use Rattle.segm.proofs.MergeLaws.{not_far}
use Rattle.segm.proofs.Still.{merging, far_on, paired_on, far-end, far-same, far-next, far-here, paired-end, paired_same, paired-next, pass-merged}

-- ---- totals that are not outside fit 32 bits

near : (z : ℤ) → is_far z ≡ false → SFits w32 z
near z e = fits-abs w32 z (omega (arith, not_far z e))

pub totals_fit : (g : Group) → far_group g ≡ false → SFits w32 g.subject × SFits w32 g.clip
unfolding far_group
totals_fit g e = let h = neither _ _ e in (near g.subject h.0, near g.clip h.1)

-- ---- the run

abbrev whole : List ℤ → ℕ → List Segment
whole xs n = rows_from segments xs 0 n

abbrev rest : List ℤ → ℕ → ℕ → List Segment
rest xs n i = rows_from segments xs i (n - i)

-- the promise
abbrev Ends : List ℤ → ℕ → Result Merged MergeError → List ℤ → Type 0
Ends xs n r ys = (r ≡ answer_of (whole xs n)) × (ys ≡ list_of xs (whole xs n))

-- w rows of s are written, and the group g has the last of the i rows met
pub record Run (xs : List ℤ) (n : ℕ) (s : List ℤ) (w i : ℕ) (g : Group) : Type 0 where
  pub behind : w < i
  pub within : i ≤ n
  pub subject : nat_abs g.subject ≤ i * 2147483648
  pub clip : nat_abs g.clip ≤ i * 2147483648
  pub going : Going segments merging xs n (merged (whole xs n)) s w i g
  pub far : far_on g (rest xs n i) ≡ too_big (whole xs n)
  pub found : paired_on g (rest xs n i) ≡ paired (whole xs n)

first : (xs : List ℤ) (n : ℕ) → 0 < n → whole xs n ≡ row_at segments xs 0 ∷ rest xs n 1
first xs n h = ap (rows_from segments xs 0) (sym (sub-zero n)) ∙ rows_step segments xs n 0 h

pub run_start : (xs : List ℤ) (n : ℕ) → 0 < n → {g : Group} → g ≡ alone (row_at segments xs 0) false → (nat_abs g.subject ≤ 2147483648) × (nat_abs g.clip ≤ 2147483648) → Run xs n xs 0 1 g
unfolding merged groups paired
run_start xs n h {g} e near =
    let v = row_at segments xs 0 in
    record {
      behind = omega arith;
      within = omega arith;
      subject = omega arith;
      clip = omega arith;
      going = rw (first xs n h, e, ← pass-merged v (rest xs n 1)) (going_start segments merging xs n 1 (alone v false));
      far = rw (first xs n h, e);
      found = rw (first xs n h, e);
    }

module _ {xs : List ℤ} {n : ℕ} {s : List ℤ} {w i : ℕ} {g : Group} (r : Run xs n s w i g) where
  abbrev On : List ℤ → ℕ → ℕ → Group → Type 0
  On ys k j u = Going segments merging xs n (merged (whole xs n)) ys k j u

  -- ---- a row more
  module _ {v : Segment} (h : i < n) (q : v ≡ row_at segments s i) where
    step : rest xs n i ≡ v ∷ rest xs n (i + 1)
    step = rows_step segments xs n i h ∙ ap (λ (u : Segment). u ∷ rest xs n (i + 1)) (sym (q ∙ r.going.ahead i (omega arith)))

    pub run_join : same_ends (joint g) v ≡ true → {u : Group} → u ≡ with_one g v → (nat_abs u.subject ≤ nat_abs g.subject + 2147483648) × (nat_abs u.clip ≤ nat_abs g.clip + 2147483648) → Run xs n s w (i + 1) u
    run_join t {u} e near =
        let next : merging.next g v ≡ u = rw t (sym e) in
        record {
          behind = omega (arith, r.behind);
          within = omega arith;
          subject = omega (arith, r.subject);
          clip = omega (arith, r.clip);
          going = subst (On s w (i + 1)) next (going_skip segments merging r.going v h q (rw t));
          far = ap (λ (x : Group). far_on x (rest xs n (i + 1))) e ∙ sym (ap (far_on g) step ∙ far-same g v (rest xs n (i + 1)) t) ∙ r.far;
          found = ap (λ (x : Group). paired_on x (rest xs n (i + 1))) e ∙ sym (ap (paired_on g) step ∙ paired_same g v (rest xs n (i + 1)) t) ∙ r.found;
        }

    module _ (t : same_ends (joint g) v ≡ false) where
      -- the group's total is outside
      pub far_now : far_group g ≡ true → too_big (whole xs n) ≡ true
      far_now b = sym r.far ∙ ap (far_on g) step ∙ far-here g v (rest xs n (i + 1)) t b

      -- the group is closed
      closed : (d : Bool) → is_dropped g ≡ d → {k : ℕ} {ys : List ℤ} → k ≡ w + length (cond d [] (joint g ∷ [])) → ys ≡ sets s (6 * w) (flat segments (cond d [] (joint g ∷ []))) → (k < i + 1) × On ys k (i + 1) (merging.next g v)
      unfolding left flat put_row
      closed true d c y =
          let e : w + 0 ≡ w = omega arith in
          rw (c, e, y) (omega (arith, r.behind), going_skip segments merging r.going v h q (rw (t, d)))
      closed false d c y =
          rw c (omega (arith, r.behind), going_put segments merging r.going v (joint g) h q (rw (t, d)) (omega (arith, r.behind)) y)

      pub run_close : far_group g ≡ false → {k : ℕ} → k ≡ w + length (left g) → {ys : List ℤ} → ys ≡ sets s (6 * w) (flat segments (left g)) → {u : Group} → u ≡ alone v g.met → (nat_abs u.subject ≤ 2147483648) × (nat_abs u.clip ≤ 2147483648) → Run xs n ys k (i + 1) u
      unfolding left
      run_close b {k} c {ys} y {u} e near =
          let next : merging.next g v ≡ u = rw t (sym e) in
          let x = closed (is_dropped g) refl c y in
          record {
            behind = x.0;
            within = omega arith;
            subject = omega arith;
            clip = omega arith;
            going = subst (On ys k (i + 1)) next x.1;
            far = ap (λ (x : Group). far_on x (rest xs n (i + 1))) e ∙ sym (ap (far_on g) step ∙ far-next g v (rest xs n (i + 1)) t b) ∙ r.far;
            found = ap (λ (x : Group). paired_on x (rest xs n (i + 1))) e ∙ sym (ap (paired_on g) step ∙ paired-next g v (rest xs n (i + 1)) t) ∙ r.found;
          }

  -- ---- the end
  pub too_big_lem : too_big (whole xs n) ≡ true → {ys : List ℤ} → ys ≡ replicate (length s) (pos 0) → Ends xs n (Err TooBig) ys
  too_big_lem b y = (rw b, y ∙ rw (b, r.going.kept))

  module _ (h : n ≤ i) where
    far-last : too_big (whole xs n) ≡ far_group g
    far-last = sym r.far ∙ ap (far_on g) (rows-done segments xs n i h) ∙ far-end g

    pub far_then : far_group g ≡ true → too_big (whole xs n) ≡ true
    far_then b = far-last ∙ b

    found-last : paired (whole xs n) ≡ g.met
    found-last = sym r.found ∙ ap (paired_on g) (rows-done segments xs n i h) ∙ paired-end g

    module _ (f : 6 * n ≤ length xs) where
      last : (d : Bool) → is_dropped g ≡ d → {k : ℕ} {ys : List ℤ} → k ≡ w + length (cond d [] (joint g ∷ [])) → ys ≡ sets s (6 * w) (flat segments (cond d [] (joint g ∷ []))) → (k ≡ length (merged (whole xs n))) × (ys ≡ front segments xs (merged (whole xs n)))
      unfolding left flat put_row
      last true d c y =
          let e : w + 0 ≡ w = omega arith in
          rw (c, e, y) (done segments merging r.going h (rw d) (omega (arith, r.behind, r.within)) f)
      last false d c y =
          rw c (done_put segments merging r.going (joint g) h (rw d) (omega (arith, r.behind, r.within)) f y)

      pub run_end : far_group g ≡ false → {k : ℕ} → k ≡ w + length (left g) → {ys : List ℤ} → ys ≡ sets s (6 * w) (flat segments (left g)) → Ends xs n (Ok (record { left = k; joined = g.met })) ys
      unfolding left
      run_end b c y =
          let x = last (is_dropped g) refl c y in
          (rw (far-last, b, found-last, x.0), x.1 ∙ rw (far-last, b))
