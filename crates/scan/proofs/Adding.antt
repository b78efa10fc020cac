-- Counts of entries that pass a test, one entry after the other: what was added up, with what is still to come, is the whole; and k entries are at most
-- k times 2^31.
use mathlib.Core.Path.{◌≡◌, refl, sym, ap, ap₂, ◌∙◌}
use mathlib.Core.Bool.{Bool, true, false}
use mathlib.Core.List.{List, [], ◌∷◌, ◌++◌}
use Prim.Native.Nat.{ℕ, ◌+◌, ◌*◌, ◌-◌, ◌≤◌}
use native.Mathlib.Omega.{arith}
use lib.IntN.{ℤ, pos, negsuc, nat_abs, ◌+ℤ◌, ◌*ℤ◌}
use mir.Syntax.{w32, w64}
use mir.Val.{SFits}
use Rattle.whole.specs.Fit.{abs-add, sum_fits}
use Rattle.whole.specs.Kind.{rows_from}
use Rattle.whole.proofs.KindLaws.{rows_append}
use Rattle.whole.specs.Ring.{reads}
use Rattle.whole.proofs.RingLaws.{ring}
use Rattle.whole.specs.Sum.{Sum, Over, ind}
use Rattle.whole.proofs.SumLaws.{assoc, add-zero, sum-append}
use Rattle.geom.specs.declared.Segment.{Segment}
use Rattle.geom.specs.Plane.{Side, subject, clip}
use Rattle.edges.specs.Below.{below}
use Rattle.scan.specs.declared.list.Entry.{Entry}
use Rattle.scan.specs.declared.sums.Sums.{Sums}
use Rattle.scan.specs.Scan.{entries, named, EntryOf, amount, part, no_sums, add_if, sums_of, Reached}

pub pair_eq : {r s : Sums} → ((k : Side) → part k r ≡ part k s) → r ≡ s
pair_eq h = ap₂ (λ (a b : ℤ). record { subject = a; clip = b }) (h subject) (h clip)

pub none_is : {s : Sums} → (s.subject ≡ pos 0) × (s.clip ≡ pos 0) → s ≡ no_sums
none_is h = ap₂ (λ (a b : ℤ). record { subject = a; clip = b }) h.0 h.1

pub near_32 : {z : ℤ} → SFits w32 z → nat_abs z ≤ 2147483648
near_32 {z = pos n} h = omega (arith, h.sfits)
near_32 {z = negsuc n} h = omega (arith, h.sfits)

-- ---- one term

pub taken : (a : ℤ) → a ≡ a *ℤ pos 1
taken a = ring (a ∷ []) (search reads depth 20 fits 5000) tt

pub left_out : (a : ℤ) → pos 0 ≡ a *ℤ pos 0
left_out a = ring (a ∷ []) (search reads depth 20 fits 5000) tt

pub near-one : (a : ℤ) (hit : Bool) → nat_abs (a *ℤ ind hit) ≤ nat_abs a
near-one a true = rw (← taken a) (omega arith)
near-one a false = rw (← left_out a) (omega arith)

pub more-fits : (a b : ℤ) (hit : Bool) → nat_abs a ≤ 4096 * 2147483648 → nat_abs b ≤ 2147483648 → SFits w64 (a +ℤ b *ℤ ind hit)
more-fits a b hit p q = sum_fits w64 a (b *ℤ ind hit) (omega (arith, p, q, near-one b hit))

-- the counts of an entry are those of its segment
pub small_entry : {work : List ℤ} {n : ℕ} {t : Entry} → EntryOf work n t → {v : Segment} → v ≡ named work t → SFits w32 v.subject.0 → SFits w32 v.clip.0
    → (side : Side) → nat_abs (amount side t) ≤ 2147483648
small_entry {work} h {v} q f g subject = rw h.is (near_32 (rw (ap (λ (u : Segment). u.subject.0) (q ∙ ap (named work) h.is)) at f))
small_entry {work} h {v} q f g clip = rw h.is (near_32 (rw (ap (λ (u : Segment). u.clip.0) (q ∙ ap (named work) h.is)) at g))

part_if : (k : Side) (hit : Bool) (s : Sums) (t : Entry) → part k (add_if hit s t) ≡ part k s +ℤ amount k t *ℤ ind hit
part_if subject hit s t = refl
part_if clip hit s t = refl

zero-add : (a : ℤ) → pos 0 +ℤ a ≡ a
zero-add a = ring (a ∷ []) (search reads depth 20 fits 5000) tt

-- ---- the loop

module _ (q : Entry → Bool) (all : List Entry) where
  pub record Adding (s : Sums) (rest : List Entry) (k : ℕ) : Type 0 where
    pub sums : (side : Side) → part side s +ℤ Over (amount side) q rest ≡ Over (amount side) q all
    pub near : (side : Side) → nat_abs (part side s) ≤ k * 2147483648

  pub adding_start : Adding no_sums all 0
  adding_start = record { sums = sums; near = near }
    where
      sums : (side : Side) → part side no_sums +ℤ Over (amount side) q all ≡ Over (amount side) q all
      sums subject = zero-add _
      sums clip = zero-add _

      near : (side : Side) → nat_abs (part side no_sums) ≤ 0 * 2147483648
      near subject = omega arith
      near clip = omega arith

  module _ {s : Sums} {rest : List Entry} {k : ℕ} (g : Adding s rest k) where
    pub adding_done : rest ≡ [] → (side : Side) → part side s ≡ Over (amount side) q all
    unfolding Over Sum
    adding_done e side = sym (add-zero (part side s)) ∙ sym (ap (λ (l : List Entry). part side s +ℤ Over (amount side) q l) e) ∙ g.sums side

    -- one more, whose counts are of 32 bits
    pub adding_step : {t : Entry} {more : List Entry} → rest ≡ t ∷ more → ((side : Side) → nat_abs (amount side t) ≤ 2147483648)
        → {hit : Bool} → hit ≡ q t → {r : Sums} → r ≡ add_if hit s t → Adding r more (k + 1)
    unfolding Over Sum
    adding_step {t} {more} h small {hit} b {r} p = record { sums = sums; near = near }
      where
        is : (side : Side) → part side r ≡ part side s +ℤ amount side t *ℤ ind (q t)
        is side = ap (part side) p ∙ part_if side hit s t ∙ ap (λ (c : Bool). part side s +ℤ amount side t *ℤ ind c) b

        sums : (side : Side) → part side r +ℤ Over (amount side) q more ≡ Over (amount side) q all
        sums side =
            ap (λ (z : ℤ). z +ℤ Over (amount side) q more) (is side)
            ∙ sym (assoc (part side s) (amount side t *ℤ ind (q t)) (Over (amount side) q more))
            ∙ ap (λ (l : List Entry). part side s +ℤ Over (amount side) q l) (sym h)
            ∙ g.sums side

        near : (side : Side) → nat_abs (part side r) ≤ (k + 1) * 2147483648
        near side =
            rw (is side)
            (omega (arith, abs-add (part side s) (amount side t *ℤ ind (q t)), near-one (amount side t) (q t), g.near side, small side))

-- from the first k entries on
pub adding_from : {work : List ℤ} {e : Segment} {xs : List ℤ} {k : ℕ} {s : Sums} (used : ℕ) → k ≤ used → Reached work e xs k s
    → Adding (λ t. below (named work t) e) (rows_from entries xs 0 used) s (rows_from entries xs k (used - k)) k
unfolding Over
adding_from {work} {e} {xs} {k} {s} used h r = record { sums = sums; near = r.near }
  where
    rest : List Entry
    rest = rows_from entries xs k (used - k)

    parts : rows_from entries xs 0 used ≡ rows_from entries xs 0 k ++ rest
    parts =
        let n : used ≡ k + (used - k) = omega arith in
        let z : 0 + k ≡ k = omega arith in
        ap (rows_from entries xs 0) n ∙ rows_append entries xs 0 k (used - k) ∙ ap (λ (i : ℕ). rows_from entries xs 0 k ++ rows_from entries xs i (used - k)) z

    is : (side : Side) → part side s ≡ Over (amount side) (λ t. below (named work t) e) (rows_from entries xs 0 k)
    is subject = ap (part subject) r.sums
    is clip = ap (part clip) r.sums

    sums : (side : Side) → part side s +ℤ Over (amount side) (λ t. below (named work t) e) rest ≡ Over (amount side) (λ t. below (named work t) e) (rows_from entries xs 0 used)
    sums side =
        ap (λ (z : ℤ). z +ℤ Over (amount side) (λ t. below (named work t) e) rest) (is side)
        ∙ sym (sum-append (λ t. amount side t *ℤ ind (below (named work t) e)) (rows_from entries xs 0 k) rest)
        ∙ ap (Over (amount side) (λ t. below (named work t) e)) (sym parts)

-- to the end
pub sums-done : (work : List ℤ) (e : Segment) {all : List Entry} {s : Sums} {rest : List Entry} {k : ℕ} → Adding (λ t. below (named work t) e) all s rest k → rest ≡ [] → s ≡ sums_of work e all
sums-done work e {all} {s} g z = pair_eq side
  where
    side : (side : Side) → part side s ≡ part side (sums_of work e all)
    side subject = adding_done (λ t. below (named work t) e) all g z subject
    side clip = adding_done (λ t. below (named work t) e) all g z clip
