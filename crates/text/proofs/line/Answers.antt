-- Three pairs, the byte and the end of the line, one behind the other.
use mathlib.Core.Path.{◌≡◌, ap, sym, ◌∙◌}
use mathlib.Core.List.{[], ◌∷◌}
use native.Mathlib.Omega.{arith}
use lib.IntN.{ℤ}
use mir.Syntax.{w32}
use mir.Val.{SFits, to_z, of_z}
use mir.Facts.{to_z-of_z}
use Rattle.geom.specs.declared.Segment.{Segment}
use Rattle.text.specs.PutLaws.{put_more, put_as, put_length}
use Rattle.text.specs.Text.{decimal, spaced, line}
use Rattle.text.proofs.TextLaws.{line_pairs}
use borrow.Author.Rules.{rules}
use Rattle.text.proofs.line.Goals as goal
use Rattle.text.proofs.line.Goals.{After-read-v}

pub pair-b-requires : goal.pair-b-requires
pair-b-requires c = omega (arith, c.pair-a.ensures.upper_bound, c.requires.at_bound)

pub pair-c-requires : goal.pair-c-requires
pair-c-requires c = omega (arith, c.pair-b.ensures.upper_bound, c.pair-a.ensures.upper_bound, c.requires.at_bound)

pub decimal-d-requires : goal.decimal-d-requires
decimal-d-requires c = record { at_bound = omega (arith, c.pair-c.ensures.upper_bound, c.pair-b.ensures.upper_bound, c.pair-a.ensures.upper_bound, c.requires.at_bound); k_bound = omega arith }

pub byte-requires : goal.byte-requires
byte-requires c = omega (arith, c.decimal-d.ensures.upper_bound, c.pair-c.ensures.upper_bound, c.pair-b.ensures.upper_bound, c.pair-a.ensures.upper_bound, c.requires.at_bound)

a-fits : (c : After-read-v) → SFits w32 c.read-v.result.a.x.0 × SFits w32 c.read-v.result.a.y.0
a-fits c = search rules

b-fits : (c : After-read-v) → SFits w32 c.read-v.result.b.x.0 × SFits w32 c.read-v.result.b.y.0
b-fits c = search rules

counts-fit : (c : After-read-v) → SFits w32 c.read-v.result.subject.0 × SFits w32 c.read-v.result.clip.0
counts-fit c = search rules

pair_of : {x y : ℤ} → SFits w32 x × SFits w32 y → spaced (to_z w32 (of_z w32 x) ∷ to_z w32 (of_z w32 y) ∷ []) ≡ spaced (x ∷ y ∷ [])
pair_of h = rw (to_z-of_z h.0, to_z-of_z h.1)

pub returns : goal.returns
returns c =
    let mask = c.args.mask in
    let first = c.pair-a.ensures in
    let second = c.pair-b.ensures in
    let third = c.pair-c.ensures in
    let last = c.decimal-d.ensures in
    let byte = put_as (ap decimal c.from.ensures) last.put in
    let end = c.byte.ensures in
    let e = sym (line_pairs c.read-v.result mask) ∙ ap (λ (v : Segment). line v mask) c.read-v.ensures in
    let points = put_more (put_as (pair_of (a-fits (goal.at.returns c).After-read-v)) first.put) (put_as (pair_of (b-fits (goal.at.returns c).After-read-v)) second.put) in
    let counts = put_more points (put_as (pair_of (counts-fit (goal.at.returns c).After-read-v)) third.put) in
    record { put = put_as e (put_more (put_more counts byte) end); upper_bound = omega (arith, first.upper_bound, second.upper_bound, third.upper_bound, last.upper_bound, end.place) }

pub shape_of-out : goal.shape_of-out
shape_of-out c = put_length (returns c).put
