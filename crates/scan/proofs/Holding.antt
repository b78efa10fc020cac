-- Rows that stand at the front and rows that are added behind them: the list then holds both, if there is room.
use mathlib.Core.Path.{◌≡◌, sym, ap, ◌∙◌}
use mathlib.Core.List.{List, ◌++◌}
use Prim.Native.Nat.{ℕ, ◌+◌, ◌*◌, ◌≤◌}
use native.Mathlib.Omega.{arith}
use lib.IntN.{ℤ}
use lib.ListN.{length, length-append}
use Rattle.whole.specs.Append.{Added, put_all}
use Rattle.whole.specs.Kind.{rows_from, front}
use Rattle.whole.specs.AppendLaws.{all_append}
use Rattle.whole.proofs.AppendLaws.{all-front, length-all}
use Rattle.whole.proofs.KindLaws.{rows-front}
use Rattle.scan.specs.declared.list.Entry.{Entry}
use Rattle.scan.specs.Scan.{entries, Holds}

module _ {room : ℕ} {xs : List ℤ} (f : 3 * room ≤ length xs) where
  -- all that came
  pub anew : {L : List Entry} {r : ℕ} {zs : List ℤ} → Added entries room 0 xs L r zs → Holds room xs L r zs
  anew {L} {r} {zs} a =
      let n : r ≡ length L = omega (arith, a.number) in
      record {
        same_length = ap length a.list ∙ length-all entries room xs 0 L;
        number = n;
        rows = λ h.
            ap (λ (v : List ℤ). rows_from entries v 0 r) (a.list ∙ all-front entries room xs L (omega arith) f)
            ∙ ap (λ (k : ℕ). rows_from entries (front entries xs L) 0 k) n
            ∙ rows-front entries xs L;
      }

  -- those that stayed, and those that came
  pub joined : (K L : List Entry) {l r : ℕ} {ys zs : List ℤ} → l ≤ room → l ≡ length K → ys ≡ front entries xs K → Added entries room l ys L r zs → Holds room xs (K ++ L) r zs
  joined K L {l} {r} {ys} {zs} h n q a =
      let n₀ : l ≡ 0 + length K = omega arith in
      anew
      (record {
        number = a.number ∙ omega (arith, length-append K L);
        list =
            a.list
            ∙ ap (λ (m : ℕ). put_all entries room ys m L) n₀
            ∙ ap (λ (v : List ℤ). put_all entries room v (0 + length K) L) (q ∙ sym (all-front entries room xs K (omega arith) f))
            ∙ sym (all_append entries room xs 0 K L);
      })
