-- From the checked input to the first look: turned, sorted and merged, it keeps what every list keeps, or 9 is answered.
use mathlib.Core.Path.{◌≡◌, sym, ap, ap₂, ◌∙◌}
use mathlib.Core.Bool.{false}
use mathlib.Core.List.{List, map}
use Prim.Native.Nat.{ℕ, suc, ◌-◌, ◌*◌, ◌≤◌}
use native.Mathlib.Omega.{arith}
use lib.IntN.{ℤ}
use lib.ListN.{length, length-map}
use Rattle.whole.specs.Kind.{rows_from, front}
use Rattle.whole.proofs.KindLaws.{length-rows, rows-front, length_front}
use Rattle.whole.proofs.SumLaws.{all_map}
use Rattle.geom.specs.declared.Segment.{Segment}
use Rattle.geom.specs.Limits.{work_room}
use Rattle.geom.specs.Plane.{subject, clip}
use Rattle.geom.specs.Tests.{fails, same?}
use Rattle.geom.specs.Rows.{segments}
use Rattle.segm.specs.Forward.{forward, sorted}
use Rattle.segm.specs.Merge.{merged}
use Rattle.checks.specs.declared.Settings.{Settings}
use Rattle.faults.specs.Faults.{some, has_least}
use Rattle.checks.specs.Accepted.{Accepted}
use Rattle.std.specs.Prelude.{Result, Ok, Err}
use Rattle.steps.specs.declared.TooBig.{TooBig}
use Rattle.steps.specs.Joining.{join_answer, join_list}
use Rattle.overlay.specs.declared.answer.Refusal.TheVariants.{TooBig as Big}
use Rattle.overlay.specs.Looks.{Ran, settled, refused, joined, ran}
use Rattle.overlay.specs.Outcome.{finished, swept}
use Rattle.ending.specs.Lent.{lent}
use Rattle.settle.specs.Step.{looks_allowed}
use Rattle.settle.proofs.Sound.{clear, turned-good}
use Rattle.settle.proofs.Joining.{Merges, is_joined, is_big}

-- without the bytes, which only the sweep asks for
pub less-bytes : {input : List ℤ} {s : Settings} {work masks : ℕ} → Accepted input s work masks → Accepted input s work (work_room work)
less-bytes a =
    record {
      roomy = record { limited = a.roomy.limited; rows = a.roomy.rows; room = a.roomy.room; bytes = omega arith };
      in_range = a.in_range;
      grid = a.grid;
      long = a.long;
      counts = a.counts;
      balanced = a.balanced;
    }

module _ (input : List ℤ) (s : Settings) (work masks : ℕ) (yes : Accepted input s work masks) where
  abbrev L : List Segment
  L = rows_from segments input 0 s.n

  pub no_least : some has_least L ≡ false
  no_least = clear (all_map (λ v h. rw (fails (same? v.subject.0 _) (h subject), fails (same? v.clip.0 _) (h clip))) yes.counts)

  module _ (xs w : List ℤ) (long : length xs ≡ work) (b : w ≡ front segments xs (map forward L)) where
    number : length (map forward L) ≡ s.n
    number = length-map L forward ∙ length-rows segments input 0 s.n

    pub begun_size : length w ≡ work
    begun_size = ap length b ∙ length_front segments xs (map forward L) (omega (arith, number, long, yes.roomy.room)) ∙ long

    begun_rows : rows_from segments w 0 s.n ≡ map forward L
    begun_rows = ap₂ (λ l n. rows_from segments l 0 n) b (sym number) ∙ rows-front segments xs (map forward L)

    pub begun_room : (s.n ≤ 2048) × (6 * s.n ≤ length w)
    begun_room = (yes.roomy.limited, omega (arith, begun_size, yes.roomy.room))

    pub joins : {r : Result ℕ TooBig} {k : ℕ} {zs : List ℤ} → r ≡ join_answer (rows_from segments w 0 s.n) → r ≡ Ok k → zs ≡ join_list w (rows_from segments w 0 s.n) → Merges (map forward L) (length w) zs k
    joins = is_joined w s.n begun_rows (rw begun_size yes.roomy.room) (turned-good yes.grid yes.long)

    module _ (marks : ℕ) where
      pub refuses_9 : {r : Result ℕ TooBig} {e : TooBig} → r ≡ join_answer (rows_from segments w 0 s.n) → r ≡ Err e → ran marks (work_room work) s.budget L ≡ refused Big
      unfolding ran joined
      refuses_9 e h = rw (is_big w s.n begun_rows e h)

      pub looks-start : {k l : ℕ} {zs : List ℤ} → Merges (map forward L) l zs k → ran marks (work_room work) s.budget L ≡ looks_allowed marks (work_room work) s.budget 0 (rows_from segments zs 0 k)
      unfolding ran joined looks_allowed
      looks-start m =
          let e : s.budget ≡ suc (s.budget - 1) = omega (arith, yes.in_range.some_look) in
          rw (m.small, m.rows) (sym (ap (λ n. looks_allowed marks (work_room work) n 0 (merged (sorted (map forward L)))) e))

-- an outcome is the same for lists of the same lengths
pub same_lengths : (s : Settings) (w v m n sc : List ℤ) (ms : List ℕ) (r : Ran) → length w ≡ length v → length m ≡ length n → swept s (lent w m sc ms) r ≡ swept s (lent v n sc ms) r
unfolding swept finished
same_lengths s w v m n sc ms (settled K looks) e f = rw (e, f)
same_lengths s w v m n sc ms (refused r) e f = rw (e, f)
