-- Numbers stored at the front of a part of a list are stored in the list, from the place on where the part starts.
use Rattle.std.proofs.Common.{◌≡◌, refl, ap, ◌∙◌, sym, ℕ, zero, suc, ◌+◌, ◌-◌, ◌*◌, ◌≤◌, List, [], ◌∷◌, ◌++◌, length, take, drop, set, arith, length-drop}
use Rattle.std.proofs.lemmas.List.{take_rest, drop_all, append-nil}
use Rattle.std.proofs.lemmas.List.Edits.{sets}
use borrow.Rule.Slice.PartMut.{put_mid}

sets-cons : {N : Type 0} (x : N) (l : List N) (i : ℕ) (ns : List N) → sets (x ∷ l) (suc i) ns ≡ x ∷ sets l i ns
sets-cons x l i [] = refl
sets-cons x l i (n ∷ ns) = sets-cons x (set l i n) (suc i) ns

sets-drop : {N : Type 0} (l : List N) (k : ℕ) (ns : List N) → k ≤ length l → take k l ++ sets (drop k l) 0 ns ≡ sets l k ns
sets-drop l zero ns h = refl
sets-drop [] (suc k) ns h = absurd (omega arith)
sets-drop (x ∷ l) (suc k) ns h = ap (λ t. x ∷ t) (sets-drop l k ns (omega arith)) ∙ sym (sets-cons x l k ns)

pub put_mid_sets : {N : Type 0} (l : List N) (w i v : ℕ) (ys ns : List N) → w ≡ v → v * i + v ≤ length l
    → ys ≡ sets (take (length l - w * i) (drop (w * i) l)) 0 ns → put_mid (w * i) (length l - w * i) l ys ≡ sets l (v * i) ns
put_mid_sets l w i v ys ns same h e =
    let f = rw (same, take_rest l (v * i)) at e in
    rw (same, f, drop_all (length l - v * i) (drop (v * i) l) (omega (arith, length-drop (v * i) l)), append-nil) (sets-drop l (v * i) ns (omega arith))
