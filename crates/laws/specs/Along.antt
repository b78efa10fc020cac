-- Along an edge e that is not upright the sum below it does not change. For each t of the list four tests: below e just right
-- of e.a (A), below e just left of e.b (Z), first end in the region under e (S), second end there (E). Each of the four
-- is a condition on x and, where that holds, the one answer of `Place e t`; the conditions alone satisfy A + S = Z + E
-- (`tally`, over four comparisons). Summed with the weights, S and E cancel by balance over the region.
use Rattle.std.specs.Prelude.{◌≡◌, refl, Bool, true, false, not, ◌&&◌, pos, ◌+ℤ◌, ◌≤ℤ◌, ◌<ℤ◌}
use Rattle.std.proofs.Math.IntN.{+ℤ_comm}
use Rattle.std.specs.Int.Signed.{lt_z}
use Rattle.whole.specs.Sum.{ind}
use Rattle.whole.proofs.TestLaws.{of_true}
use Rattle.geom.specs.declared.Point.{Point}
use Rattle.geom.specs.declared.Segment.{Segment}
use Rattle.geom.specs.Plane.{against}
use Rattle.laws.specs.Sides.{below_end}
use Rattle.laws.specs.Place.{Place}
use Rattle.laws.specs.Below.{lower_at}

-- the open strip of e, under e
unfoldable pub beneath : Segment → Point → Bool
beneath e q = (lt_z e.a.x.0 q.x.0 && lt_z q.x.0 e.b.x.0) && lt_z (against e q) (pos 0)

-- ---- the conditions on x
pub tally : (p q r u s : Bool) → (p ≡ true → q ≡ true) → (u ≡ true → r ≡ true) → (p ≡ false → r ≡ true) → (q ≡ false → u ≡ true)
    → ind ((not p && q) && s) +ℤ ind ((p && r) && s) ≡ ind ((r && not u) && s) +ℤ ind ((q && u) && s)
tally true true true true s h1 h2 h3 h4 = refl
tally true true true false s h1 h2 h3 h4 = +ℤ_comm (pos 0) (ind s)
tally true true false true s h1 h2 h3 h4 = absurd (of_true (h2 refl))
tally true true false false s h1 h2 h3 h4 = refl
tally true false r u s h1 h2 h3 h4 = absurd (of_true (h1 refl))
tally false true true true s h1 h2 h3 h4 = +ℤ_comm (ind s) (pos 0)
tally false true true false s h1 h2 h3 h4 = refl
tally false q false u s h1 h2 h3 h4 = absurd (of_true (h3 refl))
tally false false true true s h1 h2 h3 h4 = refl
tally false false true false s h1 h2 h3 h4 = absurd (of_true (h4 refl))

-- A + S = Z + E
pub record Fair (e t : Segment) : Type 0 where
  pub equal : ind (lower_at t e) +ℤ ind (beneath e t.a) ≡ ind (below_end t e) +ℤ ind (beneath e t.b)

module _ (e t : Segment) (run : e.a.x.0 <ℤ e.b.x.0) (runs-t : t.a.x.0 ≤ℤ t.b.x.0) (s : Bool) (pl : Place e t s) where
  abbrev p : Bool
  p = lt_z e.a.x.0 t.a.x.0

  abbrev q : Bool
  q = lt_z e.a.x.0 t.b.x.0

  abbrev r : Bool
  r = lt_z t.a.x.0 e.b.x.0

  abbrev u : Bool
  u = lt_z t.b.x.0 e.b.x.0

-- ---- the sums
-- the ends of t moved by g; the weights stay those of t
abbrev pub moved : (Point → Point) → Segment → Segment
moved g t = record { a = g t.a; b = g t.b; subject = t.subject; clip = t.clip }
