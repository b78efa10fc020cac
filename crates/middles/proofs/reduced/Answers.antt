-- `middles::reduced` meets its contract: the turn and the gap come back from their words, and a quotient is no larger than what is divided.
use mathlib.Core.Path.{◌≡◌, sym, ◌∙◌}
use lib.IntN.{◌-ℤ◌}
use lib.Signed.{quot_z}
use mir.Facts.{to_z-of_z}
use mir.Syntax.{w64}
use mir.Val.{to_z, of_z}
use borrow.Author.Rules.{sfits_of}
use Rattle.geom.specs.Plane.{against}
use Rattle.middles.proofs.Steps.{quot_fits, bits_some}
use Rattle.middles.proofs.reduced.Goals as goal
use Rattle.middles.proofs.reduced.Goals.{After-gap-d}

n_held : (c : After-gap-d) → let s = c.args in to_z w64 (of_z w64 c.turn-n.result) ≡ against s.other s.p
n_held c = to_z-of_z {w = w64} (sfits_of c.turn-n.type_inv) ∙ c.turn-n.ensures

d-held : (c : After-gap-d) → let s = c.args in to_z w64 (of_z w64 c.gap-d.result) ≡ s.f.0 -ℤ s.g.0
d-held c = to_z-of_z {w = w64} (sfits_of c.gap-d.type_inv) ∙ c.gap-d.ensures

pub nonzero_div-n : goal.nonzero_div-n
nonzero_div-n c =
    let s = c.args in
    let k = (goal.at.nonzero_div-n c).After-gap-d in
    (bits_some c.gap-d.result (sfits_of c.gap-d.type_inv) (λ e. c.requires.cut.some (sym c.gap-d.ensures ∙ e)), rw (n_held k, d-held k) (quot_fits (against s.other s.p) (s.f.0 -ℤ s.g.0) c.requires.cut.n_small))

cut-held : (c : After-gap-d)
    → let s = c.args in to_z w64 (of_z w64 (quot_z (to_z w64 (of_z w64 c.turn-n.result)) (to_z w64 (of_z w64 c.gap-d.result)))) ≡ quot_z (against s.other s.p) (s.f.0 -ℤ s.g.0)
cut-held c = let s = c.args in rw (n_held c, d-held c) (to_z-of_z (quot_fits (against s.other s.p) (s.f.0 -ℤ s.g.0) c.requires.cut.n_small))

pub moved-requires : goal.moved-requires
moved-requires c = rw (cut-held (goal.at.moved-requires c).After-gap-d) c.requires.on_grid_3

pub returns : goal.returns
returns c = c.moved.ensures ∙ rw (cut-held (goal.at.returns c).After-gap-d)
