-- The tidy marks of a look are in order, each of a segment of the list: what splitting asks of them.
use mathlib.Core.Path.{◌≡◌, refl, ap, ◌∙◌}
use mathlib.Core.Bool.{Bool, true, false, cond, true≢false}
use mathlib.Core.List.{List}
use mathlib.Core.Logic.{◌≢◌, ⊎_elim}
use Prim.Native.Nat.{ℕ, ◌+◌}
use native.Mathlib.Omega.{arith}
use lib.IntN.{pos}
use lib.ListN.{length}
use lib.Signed.{lt_z}
use Rattle.whole.specs.Order.{zz}
use Rattle.whole.specs.Lex.{lex, pick}
use Rattle.whole.specs.Total.{told}
use Rattle.whole.specs.Sorting.{sort}
use Rattle.whole.proofs.SortingLaws.{sort_sorted}
use Rattle.whole.specs.Sum.{All, none, also, Pairs, no_pair, pair}
use Rattle.whole.proofs.SumLaws.{all_map}
use Rattle.geom.specs.declared.Segment.{Segment}
use Rattle.geom.specs.Plane.{GridSegment, before}
use Rattle.geom.specs.Tests.{lt?, holds, fails}
use Rattle.split.specs.declared.answer.Mark.{Mark}
use Rattle.split.specs.Look.{look, tidy, mark_order, same_mark}
use Rattle.split.specs.LookLaws.{Number}
use Rattle.split.proofs.LookLaws.{look_cuts, cut-number}
use Rattle.split.proofs.Tidying.{same_mark?}
use Rattle.apply.specs.Answer.{names, earlier, leads, in_order}
use Rattle.whole.proofs.DistinctLaws.{distinct-strict}
use Rattle.demands.proofs.PiecesLaws.{mark-order, tidy-all}
use Rattle.overlay.specs.Looks.{radius}

abbrev Later : Mark → Mark → Type 0
Later m k = (mark_order m k ≡ true) × (m ≢ k)

not_after : (a b r e : Bool) → (r ≡ false → e ≡ true) → pick b a r ≡ false → cond a true (cond b false e) ≡ true
unfolding pick
not_after a true r e h p = absurd (true≢false p)
not_after true false r e h p = refl
not_after false false r e h p = h p

last_test : (a b : Bool) → pick b a true ≡ false → a ≡ true
unfolding pick
last_test a true p = absurd (true≢false p)
last_test true false p = refl
last_test false false p = absurd (true≢false p)

is_earlier_lem : (m k : Mark) → mark_order k m ≡ false → earlier m k ≡ true
unfolding earlier before lex
is_earlier_lem m k e =
    let p = m.point in
    let q = k.point in
    let ys = pick (lt_z q.y.0 p.y.0) (lt_z p.y.0 q.y.0) true in
    let xs = pick (lt_z q.x.0 p.x.0) (lt_z p.x.0 q.x.0) ys in
    not_after (lt_z m.segment k.segment) (lt_z k.segment m.segment) xs (before p q)
    (not_after (lt_z p.x.0 q.x.0) (lt_z q.x.0 p.x.0) ys (lt_z p.y.0 q.y.0) (last_test (lt_z p.y.0 q.y.0) (lt_z q.y.0 p.y.0))) e

later-earlier : {m k : Mark} → Later m k → earlier m k ≡ true
later-earlier {m} {k} l = ⊎_elim (λ e. absurd (l.1 (mark-order.anti m k l.0 e))) (is_earlier_lem m k) (told (mark_order k m))

named : {n : ℕ} {m : Mark} → Number 0 n m → names n m ≡ true
unfolding names
named {n} {m} r =
    let z : 0 + r.k ≡ r.k = omega arith in
    let e : m.segment ≡ pos r.k = r.is ∙ ap pos z in
    let low : lt_z m.segment (pos 0) ≡ false = fails (lt? m.segment (pos 0)) (λ l. omega (zz, e)) in
    let high : lt_z m.segment (pos n) ≡ true = holds (lt? m.segment (pos n)) (omega (zz, e, r.below)) in
    rw (low, high)

in_order_lem : {n : ℕ} {ms : List Mark} → All (Number 0 n) ms → Pairs Later ms → in_order n ms ≡ true
unfolding in_order leads
in_order_lem none no_pair = refl
in_order_lem (also h k) (pair a p) = rw (named h, led a, in_order_lem k p)
  where
    led : {m : Mark} {ks : List Mark} → All (Later m) ks → leads m ks ≡ true
    led none = refl
    led (also l ls) = later-earlier l

pub tidy_in_order : {L : List Segment} → All GridSegment L → in_order (length L) (tidy (look radius L)) ≡ true
unfolding tidy
tidy_in_order {L} g =
    in_order_lem (tidy-all (all_map (λ m. cut-number) (look_cuts radius L g)))
    (distinct-strict mark-order same_mark same_mark? (sort mark_order (look radius L)) (sort_sorted mark-order (look radius L)))
