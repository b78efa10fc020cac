-- `middles::on_slope` meets its contract: either offset is a share of target's width or height, and the point lands on the grid.
use mathlib.Core.Path.{◌≡◌, sym, ap₂, ◌∙◌}
use lib.IntN.{ℤ, ◌+ℤ◌, ◌-ℤ◌, ◌*ℤ◌}
use mir.Facts.{to_z-of_z}
use mir.Syntax.{w64}
use mir.Val.{SFits, to_z, of_z}
use borrow.Author.Rules.{sfits_of}
use Rattle.whole.specs.Fit.{fits-abs}
use Rattle.geom.specs.declared.Coord.{Coord}
use Rattle.geom.specs.declared.Point.{Point}
use Rattle.geom.specs.declared.Segment.{Segment}
use Rattle.geom.specs.Plane.{GridPoint, point}
use Rattle.plane.specs.Apart.{o₁, o₂}
use Rattle.plane.specs.Quotients.{nearest}
use Rattle.middles.specs.Point.{cross_point}
use Rattle.middles.proofs.Boxes.{middle_on_grid}
use Rattle.middles.specs.Sizes.{divisor, width, height, divisor-near}
use Rattle.middles.proofs.Ways.{share_x, share_y, slope_point}
use Rattle.middles.proofs.on_slope.Goals as goal
use Rattle.middles.proofs.on_slope.Goals.{After-gap, After-gap-2, After-share, After-share-2, After-turn, Start}

n_held : (c : After-turn) → let s = c.args in to_z w64 (of_z w64 c.turn-n.result) ≡ o₁ s.other s.target
n_held c = to_z-of_z {w = w64} (sfits_of c.turn-n.type_inv) ∙ c.turn-n.ensures

difference : (c : After-turn) → let s = c.args in to_z w64 (of_z w64 c.turn-n.result) -ℤ to_z w64 (of_z w64 c.turn.result) ≡ divisor s.target s.other
difference c =
    let e : to_z w64 (of_z w64 c.turn.result) ≡ o₂ c.args.other c.args.target = to_z-of_z {w = w64} (sfits_of c.turn.type_inv) ∙ c.turn.ensures in
    rw (n_held c, e)

fits : (c : After-turn) → SFits w64 (divisor c.args.target c.args.other)
fits c = fits-abs w64 (divisor c.args.target c.args.other) (divisor-near c.requires.grid_segment c.requires.grid_segment_2)

pub overflow_sub-d : goal.overflow_sub-d
overflow_sub-d c = rw (difference c) (fits c)

d-held : (c : After-turn) → let s = c.args in to_z w64 (of_z w64 (to_z w64 (of_z w64 c.turn-n.result) -ℤ to_z w64 (of_z w64 c.turn.result))) ≡ divisor s.target s.other
d-held c = rw (difference c) (to_z-of_z (fits c))

w_held : (c : After-gap) → to_z w64 (of_z w64 c.gap.result) ≡ width c.args.target
w_held c = to_z-of_z {w = w64} (sfits_of c.gap.type_inv) ∙ c.gap.ensures

pub share-requires : goal.share-requires
share-requires c =
    let k = (goal.at.share-requires c).After-turn in
    rw (d-held k, n_held k, w_held c) (share_x c.requires.grid_segment c.requires.grid_segment_2 c.requires.middle)

abbrev offset : Segment → Segment → ℤ → ℤ
offset t o a = nearest (o₁ o t *ℤ a) (divisor t o)

x-held : (c : After-share) → let s = c.args in to_z w64 (of_z w64 c.share.result) ≡ offset s.target s.other (width s.target)
x-held c =
    let k = c.before.before.before.before.before in
    to_z-of_z {w = w64} (sfits_of c.share.type_inv) ∙ c.share.ensures ∙ rw (d-held k, n_held k, w_held c.before)

way : (c : Start) → let t = c.args.target in let o = c.args.other in cross_point t o ≡ point (t.a.x.0 +ℤ offset t o (width t)) (t.a.y.0 +ℤ offset t o (height t))
way c = slope_point c.requires.grid_segment c.requires.grid_segment_2 c.requires.middle c.requires.x_nonzero c.requires.y_nonzero

landing : (c : Start) → let t = c.args.target in let o = c.args.other in GridPoint (point (t.a.x.0 +ℤ offset t o (width t)) (t.a.y.0 +ℤ offset t o (height t)))
landing c = rw (way c) at (middle_on_grid c.requires.grid_segment c.requires.middle)

pub moved-x-requires : goal.moved-x-requires
moved-x-requires c = rw (x-held c) (landing (goal.at.moved-x-requires c).Start).x

h-held : (c : After-gap-2) → to_z w64 (of_z w64 c.gap-2.result) ≡ height c.args.target
h-held c = to_z-of_z {w = w64} (sfits_of c.gap-2.type_inv) ∙ c.gap-2.ensures

pub share-requires-2 : goal.share-requires-2
share-requires-2 c =
    let k = (goal.at.share-requires-2 c).After-turn in
    rw (d-held k, n_held k, h-held c) (share_y c.requires.grid_segment c.requires.grid_segment_2 c.requires.middle)

y-held : (c : After-share-2) → let s = c.args in to_z w64 (of_z w64 c.share-2.result) ≡ offset s.target s.other (height s.target)
y-held c =
    let k = c.before.before.before.before.before.before.before.before.before.before.before in
    to_z-of_z {w = w64} (sfits_of c.share-2.type_inv) ∙ c.share-2.ensures ∙ rw (d-held k, n_held k, h-held c.before)

pub moved-y-requires : goal.moved-y-requires
moved-y-requires c = rw (y-held c) (landing (goal.at.moved-y-requires c).Start).y

abbrev at : Coord → Coord → Point
at x y = record { x = x; y = y }

pub returns : goal.returns
returns c =
    ap₂ at (c.moved-x.ensures ∙ rw (x-held (goal.at.returns c).After-share)) (c.moved-y.ensures ∙ rw (y-held (goal.at.returns c).After-share-2)) ∙ sym (way (goal.at.returns c).Start)
