-- Where the marks of one segment start ("Splitting"), in rows of marks in a flat list.
use Rattle.std.specs.Prelude.{cond, List, ℕ, zero, suc, ℤ, pos}
use Rattle.whole.specs.Kind.{row_at}
use Rattle.geom.specs.Plane.{sameZ}
use Rattle.split.specs.Marks.{marks}

-- where the run of the marks of segment i that ends before mark number e starts
unfoldable pub start_of : ℕ → List ℤ → ℕ → ℕ
start_of i zs zero = zero
start_of i zs (suc e) = cond (sameZ (row_at marks zs e).segment (pos i)) (start_of i zs e) (suc e)
