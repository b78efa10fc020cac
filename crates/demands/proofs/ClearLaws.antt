-- Every mark of a look, by its number: it is no end of the segment of that number, wherever in the list that segment stands.
use Rattle.std.specs.Prelude.{List, ℕ, suc, ◌+◌}
use Rattle.std.proofs.Common.{arith}
use Rattle.geom.specs.declared.Segment.{Segment}
use Rattle.split.specs.declared.answer.Mark.{Mark}
use Rattle.split.specs.LookLaws.{Cuts, here, there}
use Rattle.split.proofs.LookLaws.{cut-number}
use Rattle.demands.specs.Clear.{Clear, other-number, past, step}

-- THE LAW
pub clear_of : {i : ℕ} {L : List Segment} {m : Mark} → Cuts i L m → Clear i L m
clear_of {i} (here {L = L} {p = p} g h) = step (λ e. h) (past i (suc i) p L (omega arith))
clear_of {i} {m = m} (there c) =
    let r = cut-number c in
    step (λ e. absurd (other-number (suc i + r.k) i m.segment (λ z. omega arith) r.is e)) (clear_of c)
