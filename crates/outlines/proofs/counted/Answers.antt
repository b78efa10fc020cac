-- `outlines::counted` meets its contract: both sums change by the same two tests.
use mathlib.Core.Path.{◌≡◌, ◌∙◌}
use borrow.Author.Rules.{rules}
use Rattle.geom.specs.Plane.{same_point}
use Rattle.geom.proofs.Derived.{eq_is_same_point}
use Rattle.outlines.specs.Net.{counted_at}
use Rattle.outlines.proofs.counted.Goals as goal

pub returns-clause-value : goal.returns-clause-value
unfolding counted_at
returns-clause-value c =
    let x = c.args in
    let s : c.eq-starts.result ≡ same_point x.p x.v.a = c.eq-starts.ensures ∙ eq_is_same_point x.p x.v.a in
    let e : c.eq-ends.result ≡ same_point x.p x.v.b = c.eq-ends.ensures ∙ eq_is_same_point x.p x.v.b in
    rw (← s, ← e) (search rules)
