-- Joining rows that lie on the grid and run forward: 9 is the only refusal, and what is left keeps what every list keeps.
use mathlib.Core.Path.{◌≡◌, refl, sym, ap, ◌∙◌}
use mathlib.Core.Bool.{Bool, true, false, cond}
use mathlib.Core.List.{List}
use Prim.Native.Nat.{ℕ, ◌≤◌}
use native.Mathlib.Omega.{arith}
use lib.IntN.{ℤ}
use lib.ListN.{length}
use Rattle.whole.specs.Kind.{rows_from, front}
use Rattle.whole.proofs.KindLaws.{length-rows, rows-front, length_front}
use Rattle.whole.proofs.SortingLaws.{sort-length}
use Rattle.whole.specs.Sum.{All}
use Rattle.geom.specs.declared.Segment.{Segment}
use Rattle.geom.specs.Limits.{work_room}
use Rattle.geom.specs.Rows.{segments}
use Rattle.segm.specs.Forward.{in_order, sorted}
use Rattle.segm.specs.Merge.{merged, too_big}
use Rattle.segm.proofs.MergeLaws.{merged-length}
use Rattle.std.specs.Prelude.{Result, Ok, Err}
use Rattle.steps.specs.declared.TooBig.{TooBig}
use Rattle.steps.specs.Joining.{join_answer, join_list}
use Rattle.demands.specs.Pieces.{Good}
use Rattle.settle.specs.Kept.{Kept}
use Rattle.settle.proofs.Sound.{joined-sound}

of_rows : (b : Bool) (k : ℕ) {p : ℕ} → ◌≡◌ {A = Result ℕ TooBig} (cond b (Err (record {})) (Ok k)) (Ok p) → (b ≡ false) × (p ≡ k)
of_rows true k h = cc
of_rows false k h = (refl, cc)

of_big : (b : Bool) (k : ℕ) {e : TooBig} → ◌≡◌ {A = Result ℕ TooBig} (cond b (Err (record {})) (Ok k)) (Err e) → b ≡ true
of_big true k h = refl
of_big false k h = cc

-- of the rows K, in a list that then is zs and was as long as l
pub record Merges (K : List Segment) (l : ℕ) (zs : List ℤ) (k : ℕ) : Type 0 where
  pub small : too_big (sorted K) ≡ false
  pub size : length zs ≡ l
  pub rows : rows_from segments zs 0 k ≡ merged (sorted K)
  pub kept : Kept zs k

module _ {K : List Segment} (ys : List ℤ) (p : ℕ) (same : rows_from segments ys 0 p ≡ K) where
  pub is_joined : p ≤ work_room (length ys) → All Good K → {r : Result ℕ TooBig} {k : ℕ} {zs : List ℤ}
      → r ≡ join_answer (rows_from segments ys 0 p) → r ≡ Ok k → zs ≡ join_list ys (rows_from segments ys 0 p) → Merges K (length ys) zs k
  unfolding join_answer join_list
  is_joined room good {k = k} {zs = zs} e f g =
      let S = sorted K in
      let h = of_rows (too_big S) (length (merged S)) (sym (e ∙ rw same) ∙ f) in
      let c : length S ≡ p = sort-length in_order K ∙ ap length (sym same) ∙ length-rows segments ys 0 p in
      let one = length_front segments ys S (omega (arith, c, room)) in
      let two = length_front segments (front segments ys S) (merged S) (omega (arith, c, room, one, merged-length S)) in
      let z : zs ≡ front segments (front segments ys S) (merged S) = g ∙ rw (same, h.0) in
      let rows : rows_from segments zs 0 k ≡ merged S = rw (z, h.1) (rows-front segments (front segments ys S) (merged S)) in
      let size : length zs ≡ length ys = ap length z ∙ two ∙ one in
      record {
        small = h.0;
        size = size;
        rows = rows;
        kept = record { room = rw size (omega (arith, h.1, room, c, merged-length S)); sound = rw rows (joined-sound good h.0) };
      }

  pub is_big : {r : Result ℕ TooBig} {e : TooBig} → r ≡ join_answer (rows_from segments ys 0 p) → r ≡ Err e → too_big (sorted K) ≡ true
  unfolding join_answer
  is_big e h = of_big (too_big (sorted K)) (length (merged (sorted K))) (sym (e ∙ rw same) ∙ h)
