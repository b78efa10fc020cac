-- What splitting answers, in document 01's numbers ("Input and answer"): the number of the table, and how many segments the work list then has.
use Rattle.std.specs.Prelude.{◌≡◌, Bool, ◌||◌, List, ℕ, ◌+◌, ltb, ℤ, length, Result, Ok, Err}
use Rattle.std.proofs.Math.Path.{refl}
use Rattle.std.proofs.Common.{ap, ◌∙◌}
use Rattle.std.proofs.Math.Bool.{true, false, not, cond}
use Rattle.whole.specs.Kind.{rows_from}
use Rattle.geom.specs.Limits.{work_room, mark_room}
use Rattle.geom.specs.Rows.{segments}
use Rattle.faults.specs.Faults.{some, fault}
use Rattle.split.specs.Marks.{marks}
use Rattle.split.specs.Said.{Said, only, done}
use Rattle.apply.specs.declared.ApplyError.{ApplyError}
use Rattle.apply.specs.declared.ApplyError.TheVariants.{Short, BadCount, Full}
use Rattle.apply.specs.Answer.{in_order, outcome, apply_answer}

abbrev pub apply_says : Result ℕ ApplyError → Said
apply_says (Ok k) = done k
apply_says (Err Short) = only 1
apply_says (Err BadCount) = only 5
apply_says (Err Full) = only 8

unfoldable pub apply_said : List ℤ → ℕ → List ℤ → ℕ → Said
apply_said xs n zs count =
    let room = work_room (length xs) in
    cond ((ltb room n || ltb (mark_room (length zs)) count) || not (in_order n (rows_from marks zs 0 count))) (only 1)
    (cond (some (fault 5) (rows_from segments xs 0 n)) (only 5)
    (cond (ltb room (n + count)) (only 8) (done (n + count))))

module _ (xs : List ℤ) (n : ℕ) (zs : List ℤ) (count : ℕ) where
  pub also-said : {P : Type 0} {r : Result ℕ ApplyError} → (r ≡ apply_answer xs n zs count) × P → (r ≡ apply_answer xs n zs count) × ((apply_says r ≡ apply_said xs n zs count) × P)
  unfolding apply_answer outcome apply_said
  also-said e =
      let room = work_room (length xs) in
      (e.0, (ap apply_says e.0 ∙ by_tests (ltb room n) (ltb (mark_room (length zs)) count) (in_order n (rows_from marks zs 0 count)) (some (fault 5) (rows_from segments xs 0 n)) (ltb room (n + count)) (n + count), e.1))
    where
      by_tests : (a b o l f : Bool) (k : ℕ) → apply_says (cond a (Err Short) (cond b (Err Short) (cond o (cond l (Err BadCount) (cond f (Err Full) (Ok k))) (Err Short)))) ≡ cond ((a || b) || not o) (only 1) (cond l (only 5) (cond f (only 8) (done k)))
      by_tests true b o l f k = refl
      by_tests false true o l f k = refl
      by_tests false false false l f k = refl
      by_tests false false true true f k = refl
      by_tests false false true false true k = refl
      by_tests false false true false false k = refl
