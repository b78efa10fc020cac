-- What the derived comparison of marks says, in the words of the definitions: `==` is `same_mark`.
use Rattle.std.specs.Prelude.{◌≡◌}
use Rattle.geom.specs.Plane.{sameZ, same_point}
use Rattle.geom.proofs.Derived.{equal, both, eq_is_same_point}
use Rattle.split.specs.declared.answer.Mark.{Mark}
use Rattle.split.specs.Look.{same_mark}
use Rattle.split.specs.contracts.answer.MarkPartialEq.TheImpl.{eq-value}

pub eq_is_same_mark : (m n : Mark) → eq-value.it m n ≡ same_mark m n
unfolding same_mark
eq_is_same_mark m n = rw (equal m.segment n.segment, eq_is_same_point m.point n.point) (both (sameZ m.segment n.segment) (same_point m.point n.point))
