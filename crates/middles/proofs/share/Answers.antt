-- `middles::share` meets its contract: a share of a is no larger than a, and its sign is that of a.
use mir.Syntax.{w64}
use mathlib.Core.Path.{◌≡◌, sym, ◌∙◌}
use Prim.Native.Nat.{◌*◌}
use native.Mathlib.Omega.{arith}
use lib.IntN.{nat_abs}
use mir.Facts.{to_z-of_z}
use borrow.Author.Rules.{sfits_of}
use Rattle.plane.specs.Quotients.{near}
use Rattle.middles.proofs.Steps.{share_is, share_most}
use Rattle.middles.proofs.share.Goals as goal
use Rattle.middles.proofs.share.Goals.{After-share, After-unsigned_abs, After-unsigned_abs-2, After-unsigned_abs-3}

n-is : (c : After-unsigned_abs) → c.unsigned_abs.result ≡ nat_abs c.args.n
n-is c = c.unsigned_abs.ensures.value ∙ rw (to_z-of_z c.ranges.n)

d-is : (c : After-unsigned_abs-2) → c.unsigned_abs-2.result ≡ nat_abs c.args.d
d-is c = c.unsigned_abs-2.ensures.value ∙ rw (to_z-of_z c.ranges.d)

a-is : (c : After-unsigned_abs-3) → c.unsigned_abs-3.result ≡ nat_abs c.args.a
a-is c = c.unsigned_abs-3.ensures.value ∙ rw (to_z-of_z c.ranges.a)

share-held : (c : After-share) → let s = c.args in c.share.result ≡ near (nat_abs s.n * nat_abs s.a) (nat_abs s.d)
share-held c = c.share.ensures ∙ rw (n-is c.before.before.before, d-is c.before.before, a-is c.before)

pub signed-requires : goal.signed-requires
signed-requires c = let p = c.requires in omega (arith, share-held c, (share_most p).most, p.a_small)

pub returns : goal.returns
returns c =
    to_z-of_z {w = w64} (sfits_of c.signed.type_inv) ∙ c.signed.ensures ∙ rw (to_z-of_z c.ranges.a, share-held (goal.at.returns c).After-share) (sym (share_is c.args.a c.requires.same))
