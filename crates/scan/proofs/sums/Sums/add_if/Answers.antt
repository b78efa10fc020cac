-- `add_if`: both sums are exact in 64 bits.
use mathlib.Core.Path.{◌≡◌, refl, ap₂, ◌∙◌}
use mathlib.Core.Bool.{Bool, true, false}
use Prim.Native.Nat.{◌*◌, ◌≤◌}
use native.Mathlib.Omega.{arith}
use lib.IntN.{ℤ, pos, ◌+ℤ◌, ◌*ℤ◌, nat_abs}
use mir.Syntax.{w64}
use mir.Val.{SFits, to_z, of_z, bool_byte}
use mir.Facts.{to_z-of_z}
use borrow.Author.Rules.{rules}
use Rattle.whole.specs.Sum.{ind}
use Rattle.scan.proofs.Adding.{taken, left_out, more-fits}
use Rattle.scan.proofs.sums.Sums.add_if.Goals as goal
use Rattle.scan.proofs.sums.Sums.add_if.Goals.{Start}

byte_is : (hit : Bool) → pos (bool_byte hit) ≡ ind hit
byte_is true = refl
byte_is false = refl

one_fits : (hit : Bool) → SFits w64 (ind hit)
one_fits true = record { sfits = omega arith }
one_fits false = record { sfits = omega arith }

times_fits : (b : ℤ) (hit : Bool) → SFits w64 b → SFits w64 (b *ℤ ind hit)
times_fits b true f = rw (← taken b) f
times_fits b false f = rw (← left_out b) (one_fits false)

-- a sum and a count that counts, read back from their bits
both : (a b z : ℤ) (hit : Bool) → SFits w64 a → SFits w64 b → z ≡ pos (bool_byte hit) → nat_abs a ≤ 4096 * 2147483648 → nat_abs b ≤ 2147483648
    → to_z w64 (of_z w64 (to_z w64 (of_z w64 a) +ℤ to_z w64 (of_z w64 (to_z w64 (of_z w64 b) *ℤ to_z w64 (of_z w64 z))))) ≡ a +ℤ b *ℤ ind hit
both a b z hit f g e p q =
    let is : z ≡ ind hit = e ∙ byte_is hit in
    let h : SFits w64 z = rw is (one_fits hit) in
    rw (to_z-of_z f, to_z-of_z g, to_z-of_z h, is, to_z-of_z (times_fits b hit g)) (to_z-of_z (more-fits a b hit p q))

s-subject : (c : Start) → SFits w64 c.args.self.subject
s-subject c = search rules

t-subject : (c : Start) → SFits w64 c.args.t.subject
t-subject c = search rules

s-clip : (c : Start) → SFits w64 c.args.self.clip
s-clip c = search rules

t-clip : (c : Start) → SFits w64 c.args.t.clip
t-clip c = search rules

pub returns : goal.returns
returns c =
    let a = c.args in
    let s = (goal.at.returns c).Start in
    ap₂ (λ (x y : ℤ). record { subject = x; clip = y }) (both a.self.subject a.t.subject c.from-times.result a.hit (s-subject s) (t-subject s) c.from-times.ensures c.requires.subject_bound.0 c.requires.subject_bound_2.0) (both a.self.clip a.t.clip c.from-times.result a.hit (s-clip s) (t-clip s) c.from-times.ensures c.requires.subject_bound.1 c.requires.subject_bound_2.1)
