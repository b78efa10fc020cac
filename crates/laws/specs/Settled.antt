-- Settled lists: every segment runs forward and every two are apart. Of a segment of the list each other is placed.
use Rattle.std.specs.Prelude.{◌≡◌, refl, List, [], ◌∷◌, Bool, true, false, ◌&&◌, T, ◌⊎◌, ℤ, pos, ◌+ℤ◌, ◌*ℤ◌}
use Rattle.std.proofs.Common.{◌∙◌, ap, subst, inl, inr}
use Rattle.plane.specs.Decide.{and_is}
use Rattle.whole.specs.Ring.{reads}
use Rattle.whole.proofs.RingLaws.{ring}
use Rattle.whole.specs.Sum.{All, none, also, Pairs, no_pair, pair, In, here, there, Sum, ind, Over}
use Rattle.whole.proofs.SumLaws.{all_map, all_both, all_in, over_none}
use Rattle.geom.specs.declared.Segment.{Segment}
use Rattle.geom.specs.Plane.{Before, before}
use Rattle.plane.specs.Order.{before_is}
use Rattle.plane.specs.Apart.{apart, Apart, apart_sym, apart_is}
use Rattle.laws.specs.Place.{Placed, placed, placed_self}

pub record Settled (L : List Segment) : Type 0 where
  pub forward : All (λ t. Before t.a t.b) L
  pub apart : Pairs Apart L

-- a segment of the list, and each: itself, or one apart from it
abbrev pub Meets : Segment → Segment → Type 0
Meets e t = (e ≡ t) ⊎ Apart e t

pub meets_in : {e : Segment} {L : List Segment} → In e L → Pairs Apart L → All (Meets e) L
meets_in {e} here (pair h p) = also (inl refl) (all_map (λ t k. inr k) h)
meets_in (there i) (pair h p) = also (inr (apart_sym (all_in i h))) (meets_in i p)

pub place_of : {e t : Segment} → Meets e t → Placed e t
place_of {e} (inl q) = subst (λ t. Placed e t) q (placed_self e)
place_of (inr h) = placed h

pub place_in : {e : Segment} {L : List Segment} → In e L → Pairs Apart L → All (Placed e) L
place_in i p = all_map (λ t h. place_of h) (meets_in i p)

-- ---- a test that only e passes
one_and : (a b : ℤ) → b ≡ pos 0 → a *ℤ pos 1 +ℤ b ≡ a
one_and a b e = rw e (ring (a ∷ []) (search reads depth 20 fits 5000) tt)

none_and : (a b c : ℤ) → b ≡ c → a *ℤ pos 0 +ℤ b ≡ c
none_and a b c e = rw e (ring (a ∷ c ∷ []) (search reads depth 20 fits 5000) tt)

pub only : (w : Segment → ℤ) (f : Segment → Bool) (e : Segment) {L : List Segment} → f e ≡ true → All (λ t. Apart e t → f t ≡ false) L → In e L → Pairs Apart L → Over w f L ≡ w e
unfolding Over Sum
only w f e it none i p = elim i [ ]
only w f e it (also n ns) (here {L = L}) (pair h k) = ap (λ c. w e *ℤ ind c +ℤ Over w f L) it ∙ one_and (w e) (Over w f L) (over_none w (all_map (λ t m. m.0 m.1) (all_both ns h)))
only w f e it (also n ns) (there {t = t} {L = L} i) (pair h k) = ap (λ c. w t *ℤ ind c +ℤ Over w f L) (n (apart_sym (all_in i h))) ∙ none_and (w t) (Over w f L) (w e) (only w f e it ns i k)

-- ---- a test
unfoldable pub apart_from : Segment → List Segment → Bool
apart_from e [] = true
apart_from e (t ∷ L) = apart e t && apart_from e L

unfoldable pub settled : List Segment → Bool
settled [] = true
settled (e ∷ L) = before e.a e.b && (apart_from e L && settled L)

each-apart : (e : Segment) (L : List Segment) → T (apart_from e L) → All (Apart e) L
unfolding apart_from
each-apart e [] h = none
each-apart e (t ∷ L) h = let k = (and_is (apart e t) (apart_from e L) (apart_is e t) (λ s. s, λ s. s)).0 h in also k.0 (each-apart e L k.1)

pub settled_of : (L : List Segment) → T (settled L) → Settled L
unfolding settled
settled_of [] h = record { forward = none; apart = no_pair }
settled_of (e ∷ L) h =
    let k = (and_is (before e.a e.b) (apart_from e L && settled L) (before_is e.a e.b) (and_is (apart_from e L) (settled L) (λ s. s, λ s. s) (λ s. s, λ s. s))).0 h in
    let r = settled_of L k.1.1 in
    record { forward = also k.0 r.forward; apart = pair (each-apart e L k.1.0) r.apart }
