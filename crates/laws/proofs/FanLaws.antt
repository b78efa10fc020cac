-- The edges that start at p are strictly ordered by turn, all of them, straight up the last; so are those that end at p,
-- straight up from below the first. Transitivity is one identity with the offsets in x as weights; two edges of a settled
-- list that share an end are not in line.
use Rattle.std.specs.Prelude.{◌≡◌, ◌⊎◌, pos, ◌-ℤ◌, ◌<ℤ◌}
use Rattle.std.proofs.Common.{sym, ◌∙◌, ap, subst, inl, inr}
use Rattle.whole.specs.Order.{zz, sub_is}
use Rattle.whole.specs.Test.{lt-true, tests}
use Rattle.whole.proofs.TestLaws.{lt_of}
use Rattle.geom.specs.declared.Point.{Point}
use Rattle.geom.specs.declared.Segment.{Segment}
use Rattle.geom.specs.Plane.{turn, against, Before}
use Rattle.plane.proofs.TurnsLaws.{turn_self, turn_end, turn_cyclic}
use Rattle.plane.specs.Apart.{UpTo, Apart, in_line_lem, off_e, off_f, at_ends, o₁, o₂}
use Rattle.laws.specs.Points.{never_upto, runs}
use Rattle.laws.specs.Telescope.{Strict, Told}
use Rattle.laws.specs.Node.{start-lt, end_lt}
use Rattle.laws.proofs.NodeLaws.{zero_side, not_last, not_first}
use Rattle.laws.specs.Fan.{both_zero, by_weights, fan, fan⁻, two_ways}

after-trans : (p x y z : Point) → Before p x → Before p y → Before p z → pos 0 <ℤ turn p x y → pos 0 <ℤ turn p y z → pos 0 <ℤ turn p x z
after-trans p x y z hx hy hz h k =
    by_weights (z.x.0 -ℤ p.x.0) (x.x.0 -ℤ p.x.0) (y.x.0 -ℤ p.x.0) (turn p x y) (turn p y z) (turn p x z)
    (omega (zz, not_last hy hz k, sub_is y.x.0 p.x.0)) (omega (zz, runs hz, sub_is z.x.0 p.x.0)) (omega (zz, not_last hx hy h, sub_is x.x.0 p.x.0)) h k (fan p x y z)

before-trans : (p x y z : Point) → Before x p → Before y p → Before z p → pos 0 <ℤ turn p x y → pos 0 <ℤ turn p y z → pos 0 <ℤ turn p x z
before-trans p x y z hx hy hz h k =
    by_weights (p.x.0 -ℤ z.x.0) (p.x.0 -ℤ x.x.0) (p.x.0 -ℤ y.x.0) (turn p x y) (turn p y z) (turn p x z)
    (omega (zz, not_first hy hz k, sub_is p.x.0 y.x.0)) (omega (zz, runs hz, sub_is p.x.0 z.x.0)) (omega (zz, not_first hx hy h, sub_is p.x.0 x.x.0)) h k (fan⁻ p x y z)

pub start-strict : (p : Point) → Strict (start-lt p) (λ t. (p ≡ t.a) × (Before t.a t.b))
unfolding start-lt
start-strict p = record {
  irreflexive = λ t q. simp (tests, turn_end p t.b);
  transitive = λ s t r hs ht hr h k. lt-true (after-trans p s.b t.b r.b (from s hs) (from t ht) (from r hr) (lt_of h) (lt_of k));
}
  where
    from : (t : Segment) → (p ≡ t.a) × (Before t.a t.b) → Before p t.b
    from t h = subst (λ q. Before q t.b) (sym h.0) h.1

pub end-strict : (p : Point) → Strict (end_lt p) (λ t. (p ≡ t.b) × (Before t.a t.b))
unfolding end_lt
end-strict p = record {
  irreflexive = λ t q. simp (tests, turn_end p t.a);
  transitive = λ s t r hs ht hr h k. lt-true (before-trans p r.a t.a s.a (from r hr) (from t ht) (from s hs) (lt_of k) (lt_of h));
}
  where
    from : (t : Segment) → (p ≡ t.b) × (Before t.a t.b) → Before t.a p
    from t h = subst (λ q. Before t.a q) (sym h.0) h.1

pub no_shared : {s r : Segment} → Apart s r → ((UpTo s.b r.a) ⊎ (UpTo r.b s.a) → ⊥) → o₁ s r ≡ pos 0 → o₂ s r ≡ pos 0 → (o₁ r s ≡ pos 0) ⊎ (o₂ r s ≡ pos 0) → ⊥
no_shared (in_line_lem p q u v l) f g h k = f l
no_shared (off_e l) f g h k = zero_side (inl g) l
no_shared (off_f l) f g h k = zero_side k l
no_shared (at_ends l m) f g h k = both_zero g h l

pub start-told : (p : Point) (s r : Segment) → (p ≡ s.a) × (Before s.a s.b) → (p ≡ r.a) × (Before r.a r.b) → Apart s r → Told (start-lt p) s r
unfolding start-lt
start-told p s r hs hr m = two_ways p s.b r.b (λ z. no_shared m clear zs (ap (λ q. turn q s.b r.b) (sym hs.0) ∙ z) (inl zr))
  where
    both : s.a ≡ r.a
    both = sym hs.0 ∙ hr.0

    zs : o₁ s r ≡ pos 0
    zs = ap (λ q. against s q) (sym both) ∙ turn_self s.a s.b

    zr : o₁ r s ≡ pos 0
    zr = ap (λ q. against r q) both ∙ turn_self r.a r.b

    clear : (UpTo s.b r.a) ⊎ (UpTo r.b s.a) → ⊥
    clear (inl l) = never_upto hs.1 (subst (λ q. UpTo s.b q) (sym both) l)
    clear (inr l) = never_upto hr.1 (subst (λ q. UpTo r.b q) both l)

pub end-told : (p : Point) (s r : Segment) → (p ≡ s.b) × (Before s.a s.b) → (p ≡ r.b) × (Before r.a r.b) → Apart s r → Told (end_lt p) s r
unfolding end_lt
end-told p s r hs hr m = two_ways p r.a s.a (λ z. no_shared m clear (ap (λ q. turn s.a q r.a) (sym hs.0) ∙ turn_cyclic s.a p r.a ∙ z) zs (inr zr))
  where
    both : s.b ≡ r.b
    both = sym hs.0 ∙ hr.0

    zs : o₂ s r ≡ pos 0
    zs = ap (λ q. against s q) (sym both) ∙ turn_end s.a s.b

    zr : o₂ r s ≡ pos 0
    zr = ap (λ q. against r q) both ∙ turn_end r.a r.b

    clear : (UpTo s.b r.a) ⊎ (UpTo r.b s.a) → ⊥
    clear (inl l) = never_upto hr.1 (subst (λ q. UpTo q r.a) both l)
    clear (inr l) = never_upto hs.1 (subst (λ q. UpTo q s.a) (sym both) l)
