-- What the derived comparison of marks says, in the words of the definitions: `<` is `earlier`.
use Rattle.std.specs.Prelude.{◌≡◌, Bool, cond, true, false, refl, Option, Some}
use Rattle.std.specs.Int.Signed.{lt_z}
use Rattle.std.specs.Ordering.{partial_lt, partial_ordering_then, is_some_and}
use Rattle.std.proofs.Common.{Less, Equal, Greater, Ordering, is_lt, ap, ◌∙◌}
use Rattle.geom.proofs.Derived.{lt_is_before}
use Rattle.split.specs.declared.answer.Mark.{Mark}
use Rattle.split.specs.contracts.answer.MarkPartialOrd.TheImpl.{partial_cmp-value}
use Rattle.apply.specs.Answer.{earlier}

by_tests : (a b : Bool) (o : Option Ordering) → is_some_and is_lt (partial_ordering_then (Some (cond a Less (cond b Greater Equal))) o) ≡ cond a true (cond b false (is_some_and is_lt o))
by_tests true b o = refl
by_tests false true o = refl
by_tests false false o = refl

pub lt_is_earlier : (m k : Mark) → partial_lt partial_cmp-value.it m k ≡ earlier m k
unfolding earlier
lt_is_earlier m k =
    by_tests (lt_z m.segment k.segment) (lt_z k.segment m.segment) _ ∙ ap (λ t. cond (lt_z m.segment k.segment) true (cond (lt_z k.segment m.segment) false t)) (lt_is_before m.point k.point)
