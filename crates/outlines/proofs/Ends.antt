-- The net count at a point is what starts there less what ends there, so it is zero exactly where the list is balanced; and a list is open exactly if
-- some segment of it has an end where it is not balanced.
use mathlib.Core.Path.{◌≡◌, refl, sym, ap, ap₂, ◌∙◌}
use mathlib.Core.Bool.{Bool, true, false, not, ◌&&◌, ◌||◌}
use mathlib.Core.List.{List, [], ◌∷◌}
use lib.IntN.{ℤ, pos, ◌+ℤ◌, ◌-ℤ◌, ◌*ℤ◌}
use Rattle.whole.specs.Order.{zz, add_is, sub_is}
use Rattle.whole.specs.Ring.{reads}
use Rattle.whole.proofs.RingLaws.{ring}
use Rattle.whole.specs.Sum.{Sum, Over, ind}
use Rattle.geom.specs.declared.Point.{Point}
use Rattle.geom.specs.declared.Segment.{Segment}
use Rattle.geom.specs.Plane.{Side, subject, clip, count, sameZ, same_point}
use Rattle.geom.specs.Tests.{Decides, yes, no, holds, fails, same?}
use Rattle.segm.specs.Balance.{starting, ending, balanced_at, balanced_over, closed}
use Rattle.faults.specs.Faults.{some}
use Rattle.outlines.specs.declared.Net.{Net}
use Rattle.outlines.specs.Open.{is_open}
use Rattle.outlines.specs.Net.{changed_by, counted_at, net_from, nothing, net_at, is_uneven, has_open_end}

-- the net count of a side
abbrev part : Side → Net → ℤ
part subject net = net.subject
part clip net = net.clip

-- ---- one segment more

changed_is : (s e : Bool) (c z : ℤ) → changed_by s e c z ≡ (z +ℤ c *ℤ ind s) -ℤ c *ℤ ind e
unfolding changed_by
changed_is true true c z = ring (z ∷ c ∷ []) (search reads depth 20 fits 5000) tt
changed_is true false c z = ring (z ∷ c ∷ []) (search reads depth 20 fits 5000) tt
changed_is false true c z = ring (z ∷ c ∷ []) (search reads depth 20 fits 5000) tt
changed_is false false c z = ring (z ∷ c ∷ []) (search reads depth 20 fits 5000) tt

part_is : (s : Side) (p : Point) (net : Net) (v : Segment) → part s (counted_at p net v) ≡ (part s net +ℤ count s v *ℤ ind (same_point p v.a)) -ℤ count s v *ℤ ind (same_point p v.b)
unfolding counted_at
part_is subject p net v = changed_is (same_point p v.a) (same_point p v.b) v.subject.0 net.subject
part_is clip p net v = changed_is (same_point p v.a) (same_point p v.b) v.clip.0 net.clip

-- ---- all of them

regroup : (n a b x y : ℤ) → ((n +ℤ a) -ℤ b) +ℤ (x -ℤ y) ≡ n +ℤ ((a +ℤ x) -ℤ (b +ℤ y))
regroup n a b x y = ring (n ∷ a ∷ b ∷ x ∷ y ∷ []) (search reads depth 20 fits 5000) tt

none_more : (n : ℤ) → n ≡ n +ℤ (pos 0 -ℤ pos 0)
none_more n = ring (n ∷ []) (search reads depth 20 fits 5000) tt

net_is : (s : Side) (p : Point) (net : Net) (L : List Segment) → part s (net_from p net L) ≡ part s net +ℤ (starting (count s) p L -ℤ ending (count s) p L)
unfolding net_from Over Sum
net_is s p net [] = none_more (part s net)
net_is s p net (v ∷ L) =
    net_is s p (counted_at p net v) L
    ∙ ap (λ z. z +ℤ (starting (count s) p L -ℤ ending (count s) p L)) (part_is s p net v)
    ∙ regroup (part s net) (count s v *ℤ ind (same_point p v.a)) (count s v *ℤ ind (same_point p v.b)) (starting (count s) p L) (ending (count s) p L)

-- ---- the test

zero_is : (z a b : ℤ) → z ≡ pos 0 +ℤ (a -ℤ b) → sameZ z (pos 0) ≡ sameZ a b
zero_is z a b e = go (same? a b)
  where
    d : (a ≡ b → z ≡ pos 0) × (z ≡ pos 0 → a ≡ b)
    d = (λ h. omega (zz, add_is (pos 0) (a -ℤ b), sub_is a b), λ h. omega (zz, add_is (pos 0) (a -ℤ b), sub_is a b))

    go : {t : Bool} → Decides (a ≡ b) t → sameZ z (pos 0) ≡ t
    go (yes h) = holds (same? z (pos 0)) (d.0 h)
    go (no f) = fails (same? z (pos 0)) (λ h. f (d.1 h))

uneven_is : (p : Point) (L : List Segment) → is_uneven (net_at p L) ≡ not (balanced_at (count subject) L p && balanced_at (count clip) L p)
unfolding balanced_at
uneven_is p L =
    ap not
    (ap₂ ◌&&◌
    (zero_is _ (starting (count subject) p L) (ending (count subject) p L) (net_is subject p nothing L))
    (zero_is _ (starting (count clip) p L) (ending (count clip) p L) (net_is clip p nothing L)))

-- subject and clip at a, at b and at all later ends: by segments, and by counts
sorted_out : (sa sb s ca cb c : Bool) → not (((sa && sb) && s) && ((ca && cb) && c)) ≡ ((not (sa && ca) || not (sb && cb)) || not (s && c))
sorted_out false sb s ca cb c = refl
sorted_out true false s false cb c = refl
sorted_out true false s true cb c = refl
sorted_out true true false false cb c = refl
sorted_out true true false true false c = refl
sorted_out true true false true true c = refl
sorted_out true true true false cb c = refl
sorted_out true true true true false c = refl
sorted_out true true true true true c = refl

over_is : (L K : List Segment) → not (balanced_over (count subject) L K && balanced_over (count clip) L K) ≡ some (has_open_end L) K
unfolding balanced_over some has_open_end
over_is L [] = refl
over_is L (v ∷ K) =
    let at : Side → Point → Bool = λ s p. balanced_at (count s) L p in
    sorted_out (at subject v.a) (at subject v.b) (balanced_over (count subject) L K) (at clip v.a) (at clip v.b) (balanced_over (count clip) L K)
    ∙ ap₂ ◌||◌ (ap₂ ◌||◌ (sym (uneven_is v.a L)) (sym (uneven_is v.b L))) (over_is L K)

pub open_is : (L : List Segment) → is_open L ≡ some (has_open_end L) L
unfolding closed
open_is L = over_is L L
