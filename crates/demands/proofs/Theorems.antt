-- The three demands, of every run that answers 0. `outcome input s l` is what document 01 says that a run returns and leaves in the lent lists l; m and looks are the
-- numbers that come with answer 0, as they do in document 01's printed run (overlay/specs/Cases.antt); an edge is one of the first m segments of the work list. Each
-- theorem names its place in document 01.
use Rattle.std.specs.Prelude.{◌≡◌, true, false, List, map, ◌↔◌, ◌≢◌, ℕ, ◌-◌, ◌%◌, ◌<◌, ◌≤◌, ℤ, pos, ◌*ℤ◌, length, ◌<ℤ◌}
use Rattle.std.proofs.Common.{sym, ap, ◌∙◌}
use Rattle.whole.specs.Order.{zz}
use Rattle.whole.specs.Sum.{All, In}
use Rattle.whole.proofs.SumLaws.{all_both, all_in}
use Rattle.geom.specs.declared.Segment.{Segment}
use Rattle.geom.specs.Plane.{Side, Before, count}
use Rattle.geom.specs.Off.{Off, On, EndOf, cross}
use Rattle.geom.specs.Limits.{work_room}
use Rattle.segm.specs.Forward.{forward as turned-forward, sorted}
use Rattle.segm.specs.Merge.{too_big}
use Rattle.segm.specs.Order.{EndsBefore}
use Rattle.segm.specs.Balance.{Balanced}
use Rattle.fills.specs.Inside.{inside}
use Rattle.rules.specs.Keep.{bit, sign}
use Rattle.rules.specs.KeepLaws.{Algebra}
use Rattle.rules.proofs.KeepLaws.{of_signs}
use Rattle.scan.specs.Masks.{bottom, top, mask_of}
use Rattle.laws.specs.Sides.{bottom-end, left_side}
use Rattle.laws.specs.Ray.{ray}
use Rattle.laws.specs.Settled.{Settled}
use Rattle.laws.proofs.AlongLaws.{both_ends}
use Rattle.laws.proofs.Upright.{left_is_top}
use Rattle.laws.specs.Beside.{Beside}
use Rattle.laws.proofs.BesideLaws.{ray-over, ray-under}
use Rattle.laws.specs.Level.{Level}
use Rattle.laws.proofs.BesideUpright.{ray-right, ray-left}
use Rattle.checks.specs.declared.Settings.{Settings}
use Rattle.overlay.specs.Numbers.{answer0}
use Rattle.overlay.specs.Looks.{settled as settled-as, ran}
use Rattle.overlay.specs.Outcome.{Lent, Outcome, outcome}
use Rattle.demands.specs.Chain.{start, Chain}
use Rattle.demands.proofs.ChainLaws.{one-chain}
use Rattle.demands.specs.Exactly.{Allowed}
use Rattle.demands.proofs.ExactlyLaws.{settles_exactly}
use Rattle.demands.specs.Refusals.{Answers}
use Rattle.demands.proofs.RefusalsLaws.{exactly}
use Rattle.demands.specs.Even.{Even, AllEven}
use Rattle.demands.proofs.EvenLaws.{all_even}
use Rattle.demands.specs.Ordered.{Ordered}
use Rattle.demands.proofs.OrderedLaws.{all-ordered}
use Rattle.demands.proofs.SettledLaws.{looks-settled, meet_at_ends}
use Rattle.demands.specs.Answer.{given, edges, Answered}
use Rattle.demands.proofs.AnswerLaws.{answered}
use Rattle.demands.specs.Bytes.{top_bit, bottom_bit, kept_bit, byte_mask}
use Rattle.demands.proofs.BytesLaws.{mask-top, mask-bottom, kept_is}
use Rattle.demands.proofs.SignsLaws.{signs_balanced}
use Rattle.demands.proofs.PlacesLaws.{row_in, row-pair, row-byte}
use Rattle.demands.specs.Theorems.{byte, edge, rises}

-- "Input and answer", the table: a number is answered exactly when no sentence that the run tests before its own holds, and its own does. `Answers` has a row for each
-- number, 0 to 11
pub numbers_exactly : (input : List ℤ) (s : Settings) (l : Lent) (k : ℕ) → ((outcome input s l).answer.number ≡ k) ↔ Answers input s l k
numbers_exactly = exactly

-- "Input and answer", 7 to 10: the looks settle exactly if the totals of the turned list fit (9) and, look after look, marks and pieces have room (7, 8), totals fit (9) and
-- a look is left (10)
pub looks_settle : (room work budget : ℕ) (L J : List Segment) (n : ℕ)
    → (ran room work budget L ≡ settled-as J n) ↔ (Chain L J n × (too_big (sorted (map turned-forward L)) ≡ false) × Allowed room work (budget - 1) (start L))
looks_settle = settles_exactly

module _ (input : List ℤ) (s : Settings) (l : Lent) (m looks : ℕ) (zero : (outcome input s l).answer ≡ answer0 m looks) where
  abbrev o : Outcome
  o = outcome input s l

  abbrev K : List Segment
  K = edges o m

  facts : Answered input s l o m looks
  facts = answered input s l m looks zero

  ordered : Ordered K
  ordered = (all-ordered facts.chain.chain (all_both facts.accepted.grid facts.accepted.long)).1

  apart : Settled K
  apart = looks-settled facts.chain.chain ordered

  even : Even K
  even = (all_even facts.chain.chain facts.accepted.balanced).final

  -- "Input and answer": m is within the work capacity
  pub within_capacity : m ≤ work_room (length l.work)
  within_capacity = facts.room

  -- ---- demand 1

  -- "The run": every edge runs forward, and the edges stand strictly in order, by a and then b, so no two are equal
  pub forward : (k : ℕ) → k < m → Before (edge o k).a (edge o k).b
  forward k h = (all_in (row_in o.lists.work m k h) ordered.good).1

  pub in_order : (i j : ℕ) → i < j → j < m → EndsBefore (edge o i) (edge o j)
  in_order = row-pair o.lists.work m ordered.strict

  -- "Points off the grid": no two edges meet except at ends of both, at any point X/d, Y/d
  pub settled : (i j : ℕ) → i < j → j < m → (P : Off) → On (edge o i) P → On (edge o j) P → EndOf (edge o i) P × EndOf (edge o j) P
  settled = row-pair o.lists.work m (meet_at_ends apart)

  -- ---- demand 2

  -- "The run", "How tight the promises are": each look's marks and next list follow from the list before it, and looks is the length of that chain
  pub chain_of_looks : Chain (given input s) K looks
  chain_of_looks = facts.chain

  -- every one of those lists is on the grid, forward and strictly in order
  pub lists_in_order : All Ordered chain_of_looks.lists
  lists_in_order = (all-ordered chain_of_looks.chain (all_both facts.accepted.grid facts.accepted.long)).0

  -- and there is no other
  pub no_other_chain : (J : List Segment) (n : ℕ) → Chain (given input s) J n → (J ≡ K) × (n ≡ looks)
  no_other_chain J n c = one-chain c chain_of_looks

  -- "Masks": below 16 a byte is the edge's mask, and bits 1, 2, 4 and 8 are the fill rule's word on the sums at its top and bottom
  pub is_mask : (k : ℕ) → k < m → byte o k % 16 ≡ mask_of s.fill K (edge o k)
  is_mask k h = ap (λ b. b % 16) (row-byte o.lists.work m s.fill s.rule o.lists.masks facts.bytes k h) ∙ byte_mask s.fill K (edge o k) s.rule

  module _ (d : Side) (k : ℕ) (h : k < m) where
    at_k : In (edge o k) K
    at_k = row_in o.lists.work m k h

    pub top-bit : bit (top_bit d) (byte o k % 16) ≡ inside s.fill (top (count d) K (edge o k))
    top-bit = ap (bit (top_bit d)) (is_mask k h) ∙ mask-top s.fill K (edge o k) d

    pub bottom-bit : bit (bottom_bit d) (byte o k % 16) ≡ inside s.fill (bottom (count d) K (edge o k))
    bottom-bit = ap (bit (bottom_bit d)) (is_mask k h) ∙ mask-bottom s.fill K (edge o k) d

    -- "Masks": the bottom counted just right of a is the one counted just left of b; the left side of an upright edge is its top
    pub right_end : (edge o k).a.x.0 <ℤ (edge o k).b.x.0 → bottom (count d) K (edge o k) ≡ bottom-end (count d) K (edge o k)
    right_end u = both_ends (count d) K apart (even d) (edge o k) at_k (omega zz)

    pub left_of_upright : (edge o k).a.x.0 ≡ (edge o k).b.x.0 → left_side (count d) K (edge o k) ≡ top (count d) K (edge o k)
    left_of_upright u = left_is_top (count d) K apart (even d) (edge o k) at_k u (rises (forward k h) u)

    -- "Masks", SVG 2: the bits are the fill rule's word on the count of a ray, from any point beside the edge with no other edge between
    module _ (P : Off) where
      pub ray-over-edge : Beside K (edge o k) P → pos 0 <ℤ cross (edge o k) P → bit (top_bit d) (byte o k % 16) ≡ inside s.fill (ray (count d) K P)
      ray-over-edge b c = top-bit ∙ ap (inside s.fill) (sym (ray-over (count d) K apart (even d) (edge o k) at_k P b (omega zz)))

      pub ray-under-edge : Beside K (edge o k) P → cross (edge o k) P <ℤ pos 0 → bit (bottom_bit d) (byte o k % 16) ≡ inside s.fill (ray (count d) K P)
      ray-under-edge b c = bottom-bit ∙ ap (inside s.fill) (sym (ray-under (count d) K apart (even d) (edge o k) at_k P b (omega zz)))

      module _ (u : (edge o k).a.x.0 ≡ (edge o k).b.x.0) (v : Level K (edge o k) P) where
        pub ray-right_of_edge : (P.d *ℤ (edge o k).a.x.0) <ℤ P.X → bit (bottom_bit d) (byte o k % 16) ≡ inside s.fill (ray (count d) K P)
        ray-right_of_edge c = bottom-bit ∙ ap (inside s.fill) (sym (ray-right (count d) K apart (even d) (edge o k) at_k u (rises (forward k h) u) P v (omega zz)))

        pub ray-left_of_edge : P.X <ℤ (P.d *ℤ (edge o k).a.x.0) → bit (top_bit d) (byte o k % 16) ≡ inside s.fill (ray (count d) K P)
        ray-left_of_edge c = top-bit ∙ ap (inside s.fill) (sym (ray-left (count d) K apart (even d) (edge o k) at_k u (rises (forward k h) u) P v (omega zz)))

  -- ---- demand 3

  -- "Input and answer", 6: at every point, for either side, what starts counts as much as what ends: in the list turned, before each look, after each split and each
  -- merge, and at the end
  pub balanced : AllEven (given input s) chain_of_looks.lists K
  balanced = all_even chain_of_looks.chain facts.accepted.balanced

  -- "Keeping": so do the signs of the edges, under every overlay rule
  pub signs : (rule : ℕ) → Balanced (λ e. sign rule (mask_of s.fill K e)) K
  signs rule = signs_balanced s.fill rule K apart even

  -- union + intersection = subject + clip, and so on, edge by edge
  pub algebra : (k : ℕ) → Algebra (λ rule. sign rule (byte o k % 16))
  algebra k = of_signs (byte o k % 16)

  -- "Keeping": 16 is added to a byte exactly if the edge's sign under the rule asked for is not zero
  pub kept : (k : ℕ) → k < m → (bit kept_bit (byte o k) ≡ true) ↔ (sign s.rule (byte o k % 16) ≢ pos 0)
  kept k h =
      rw (row-byte o.lists.work m s.fill s.rule o.lists.masks facts.bytes k h, byte_mask s.fill K (edge o k) s.rule)
      (kept_is s.fill K (edge o k) s.rule)
