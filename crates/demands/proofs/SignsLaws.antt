-- The signs of the edges that start at a point and of those that end there.
use Rattle.std.specs.Prelude.{List, ℕ}
use Rattle.std.proofs.Common.{sym, subst}
use Rattle.std.proofs.Math.Path.{fun_ext}
use Rattle.whole.specs.Sum.{ind}
use Rattle.geom.specs.declared.Segment.{Segment}
use Rattle.segm.specs.Balance.{Balanced}
use Rattle.fills.specs.Inside.{inside}
use Rattle.rules.specs.Keep.{truth, sign}
use Rattle.scan.specs.Masks.{mask_of}
use Rattle.laws.specs.Settled.{Settled}
use Rattle.laws.specs.Law.{sign_of_sides}
use Rattle.laws.proofs.LawLaws.{sides_law}
use Rattle.demands.specs.Even.{Even}
use Rattle.demands.proofs.BytesLaws.{sign_is}

-- THE LAW: at every point the signs of the edges that start there sum to those of the edges that end there
pub signs_balanced : (fill rule : ℕ) (L : List Segment) → Settled L → Even L → Balanced (λ e. sign rule (mask_of fill L e)) L
unfolding sign_of_sides
signs_balanced fill rule L st even =
    subst (λ w. Balanced w L) (sym (fun_ext (λ e. sign_is fill L e rule))) (sides_law (λ s c. ind (truth rule (inside fill s) (inside fill c))) L st even)
