-- Identities of whole numbers in one line, by reflection. List the variables and let `search` read both sides:
--     ring (x ∷ y ∷ []) (search reads depth 40 fits 50000) tt : (x +ℤ y) *ℤ (x -ℤ y) ≡ x *ℤ x -ℤ y *ℤ y
-- Both sides become polynomials over the listed variables (`Pol`, nested Horner form), and the third argument is the computed test that their difference is
-- zero. `ring` is the soundness theorem of that test. Any term may stand for a variable, as `p.x`; list it as it is written in the goal. Depth is at least
-- the number of variables plus the height of the terms.
-- Refusals: an expected type `⊥` says that the identity is false; "no proof of `Both`" that a variable is missing from the list; a stuck `T` that a `pos n`
-- with n a variable was read as a numeral, and wants the ruleset `reads-atoms` with `pos n` in the list.
use Rattle.std.specs.Prelude.{◌≡◌, refl, Bool, true, false, List, [], ◌∷◌, zero, suc, ◌*◌, T, ℤ, pos, negsuc, neg_ℤ, ◌+ℤ◌, ◌-ℤ◌, ◌*ℤ◌}
use Rattle.std.proofs.Common.{sym, ◌∙◌, ap, ap₂, arith, eqb→eq}
use Rattle.std.proofs.Math.IntN.{+ℤ_idl, +ℤ_idr, +ℤ_assoc, +ℤ_comm, *ℤ_comm, zero-*ℤ, *ℤ-zero}
use Rattle.whole.specs.Order.{zz, up, dn, add_is, sub_is, neg_is, mul_is, mul-add, mul_assoc, eq_out}
use Rattle.whole.specs.Ring.{At, Both, Is, Pol, add, addc, addk, diff, each, ev, is_z, is_zero, mul, neg, place, pol, scale, scalek, con, ◌▹◌, here, there, is_var, is_add, is_mul, is_neg, is_pos, is_negsuc, both}

-- ---- each operation has the value it stands for

add-mul : (a b c : ℤ) → (a +ℤ b) *ℤ c ≡ a *ℤ c +ℤ b *ℤ c
add-mul a b c = *ℤ_comm (a +ℤ b) c ∙ mul-add c a b ∙ ap₂ ◌+ℤ◌ (*ℤ_comm c a) (*ℤ_comm c b)

swap4 : (a b c d : ℤ) → (a +ℤ b) +ℤ (c +ℤ d) ≡ (a +ℤ c) +ℤ (b +ℤ d)
swap4 a b c d =
    omega (zz, add_is a b, add_is c d, add_is a c, add_is b d, add_is (a +ℤ b) (c +ℤ d), add_is (a +ℤ c) (b +ℤ d))

mul-neg : (a b : ℤ) → a *ℤ neg_ℤ b ≡ neg_ℤ (a *ℤ b)
mul-neg a b =
    let u = (neg_is b).0 in
    let d = (neg_is b).1 in
    eq_out
    (omega
    (arith, mul_is a (neg_ℤ b), mul_is a b, neg_is (a *ℤ b), ap (λ t. up a * t) u, ap (λ t. dn a * t) u, ap (λ t. up a * t) d, ap (λ t. dn a * t) d))

neg-add : (a b : ℤ) → neg_ℤ (a +ℤ b) ≡ neg_ℤ a +ℤ neg_ℤ b
neg-add a b = omega (zz, neg_is (a +ℤ b), add_is a b, neg_is a, neg_is b, add_is (neg_ℤ a) (neg_ℤ b))

left_comm : (a b c : ℤ) → a *ℤ (b *ℤ c) ≡ b *ℤ (a *ℤ c)
left_comm a b c = sym (mul_assoc a b c) ∙ ap (λ t. t *ℤ c) (*ℤ_comm a b) ∙ mul_assoc b a c

ev-addk : (c : ℤ) (t : Pol) (ρ : List ℤ) → ev (addk c t) ρ ≡ c +ℤ ev t ρ
ev-addk c (con d) ρ = refl
ev-addk c (p ▹ q) [] = ev-addk c p []
ev-addk c (p ▹ q) (x ∷ ρ) = ap (λ t. t +ℤ x *ℤ ev q (x ∷ ρ)) (ev-addk c p ρ) ∙ +ℤ_assoc c (ev p ρ) (x *ℤ ev q (x ∷ ρ))

ev-addc : (c : ℤ) (t : Pol) (ρ : List ℤ) → ev (addc c t) ρ ≡ c +ℤ ev t ρ
ev-addc (pos zero) t ρ = sym (+ℤ_idl (ev t ρ))
ev-addc (pos (suc n)) t ρ = ev-addk (pos (suc n)) t ρ
ev-addc (negsuc n) t ρ = ev-addk (negsuc n) t ρ

ev-add : (s t : Pol) (ρ : List ℤ) → ev (add s t) ρ ≡ ev s ρ +ℤ ev t ρ
ev-add (con c) t ρ = ev-addc c t ρ
ev-add (p ▹ q) (con d) [] = ev-addc d p [] ∙ +ℤ_comm d (ev p [])
ev-add (p ▹ q) (con d) (x ∷ ρ) =
    ap (λ t. t +ℤ x *ℤ ev q (x ∷ ρ)) (ev-addc d p ρ)
    ∙ +ℤ_assoc d (ev p ρ) (x *ℤ ev q (x ∷ ρ))
    ∙ +ℤ_comm d (ev (p ▹ q) (x ∷ ρ))
ev-add (p ▹ q) (r ▹ s) [] = ev-add p r []
ev-add (p ▹ q) (r ▹ s) (x ∷ ρ) =
    ap₂ ◌+ℤ◌ (ev-add p r ρ) (ap (λ t. x *ℤ t) (ev-add q s (x ∷ ρ)) ∙ mul-add x (ev q (x ∷ ρ)) (ev s (x ∷ ρ)))
    ∙ swap4 (ev p ρ) (ev r ρ) (x *ℤ ev q (x ∷ ρ)) (x *ℤ ev s (x ∷ ρ))

ev-scalek : (c : ℤ) (t : Pol) (ρ : List ℤ) → ev (scalek c t) ρ ≡ c *ℤ ev t ρ
ev-scalek c (con d) ρ = refl
ev-scalek c (p ▹ q) [] = ev-scalek c p []
ev-scalek c (p ▹ q) (x ∷ ρ) =
    ap₂ ◌+ℤ◌ (ev-scalek c p ρ) (ap (λ t. x *ℤ t) (ev-scalek c q (x ∷ ρ)) ∙ left_comm x c (ev q (x ∷ ρ)))
    ∙ sym (mul-add c (ev p ρ) (x *ℤ ev q (x ∷ ρ)))

ev-scale : (c : ℤ) (t : Pol) (ρ : List ℤ) → ev (scale c t) ρ ≡ c *ℤ ev t ρ
ev-scale (pos zero) t ρ = sym (zero-*ℤ (ev t ρ))
ev-scale (pos (suc n)) t ρ = ev-scalek (pos (suc n)) t ρ
ev-scale (negsuc n) t ρ = ev-scalek (negsuc n) t ρ

ev-neg : (t : Pol) (ρ : List ℤ) → ev (neg t) ρ ≡ neg_ℤ (ev t ρ)
ev-neg (con d) ρ = refl
ev-neg (p ▹ q) [] = ev-neg p []
ev-neg (p ▹ q) (x ∷ ρ) =
    ap₂ ◌+ℤ◌ (ev-neg p ρ) (ap (λ t. x *ℤ t) (ev-neg q (x ∷ ρ)) ∙ mul-neg x (ev q (x ∷ ρ)))
    ∙ sym (neg-add (ev p ρ) (x *ℤ ev q (x ∷ ρ)))

ev-each-nil : (f : Pol → Pol) (v : ℤ) → ((r : Pol) → ev (f r) [] ≡ v *ℤ ev r []) → (t : Pol) → ev (each f t) [] ≡ v *ℤ ev t []
ev-each-nil f v h (con d) = h (con d)
ev-each-nil f v h (r ▹ s) = h r

ev-each : (f : Pol → Pol) (v x : ℤ) (ρ : List ℤ) → ((r : Pol) → ev (f r) ρ ≡ v *ℤ ev r ρ) → (t : Pol) → ev (each f t) (x ∷ ρ) ≡ v *ℤ ev t (x ∷ ρ)
ev-each f v x ρ h (con d) = ap (λ t. ev (f (con d)) ρ +ℤ t) (*ℤ-zero x) ∙ +ℤ_idr (ev (f (con d)) ρ) ∙ h (con d)
ev-each f v x ρ h (r ▹ s) =
    ap₂ ◌+ℤ◌ (h r) (ap (λ t. x *ℤ t) (ev-each f v x ρ h s) ∙ left_comm x v (ev s (x ∷ ρ)))
    ∙ sym (mul-add v (ev r ρ) (x *ℤ ev s (x ∷ ρ)))

ev-mul : (s t : Pol) (ρ : List ℤ) → ev (mul s t) ρ ≡ ev s ρ *ℤ ev t ρ
ev-mul (con c) t ρ = ev-scale c t ρ
ev-mul (p ▹ q) (con c) ρ = ev-scale c (p ▹ q) ρ ∙ *ℤ_comm c (ev (p ▹ q) ρ)
ev-mul (p ▹ q) (r ▹ s) [] =
    ev-add (each (λ r. mul p r) (r ▹ s)) (con (pos 0) ▹ mul q (r ▹ s)) []
    ∙ +ℤ_idr (ev (each (λ r. mul p r) (r ▹ s)) [])
    ∙ ev-each-nil (λ r. mul p r) (ev p []) (λ r. ev-mul p r []) (r ▹ s)
ev-mul (p ▹ q) (r ▹ s) (x ∷ ρ) =
    ev-add (each (λ r. mul p r) (r ▹ s)) (con (pos 0) ▹ mul q (r ▹ s)) (x ∷ ρ)
    ∙ ap₂ ◌+ℤ◌
    (ev-each (λ r. mul p r) (ev p ρ) x ρ (λ r. ev-mul p r ρ) (r ▹ s))
    (+ℤ_idl (x *ℤ ev (mul q (r ▹ s)) (x ∷ ρ)) ∙ ap (λ u. x *ℤ u) (ev-mul q (r ▹ s) (x ∷ ρ)) ∙ sym (mul_assoc x (ev q (x ∷ ρ)) (ev (r ▹ s) (x ∷ ρ))))
    ∙ sym (add-mul (ev p ρ) (x *ℤ ev q (x ∷ ρ)) (ev (r ▹ s) (x ∷ ρ)))

is_z-sound : (c : ℤ) → T (is_z c) → c ≡ pos 0
is_z-sound (pos n) t = ap pos (eqb→eq n 0 t)
is_z-sound (negsuc n) t = absurd t

both_l : (a b : Bool) → T (elim a [ true ↦ b | false ↦ false ]) → T a
both_l true b t = tt
both_l false b t = t

both_r : (a b : Bool) → T (elim a [ true ↦ b | false ↦ false ]) → T b
both_r true b t = t
both_r false b t = absurd t

is_zero-sound : (p : Pol) (ρ : List ℤ) → T (is_zero p) → ev p ρ ≡ pos 0
is_zero-sound (con c) ρ t = is_z-sound c t
is_zero-sound (p ▹ q) [] t = is_zero-sound p [] (both_l (is_zero p) (is_zero q) t)
is_zero-sound (p ▹ q) (x ∷ ρ) t =
    ap₂ ◌+ℤ◌
    (is_zero-sound p ρ (both_l (is_zero p) (is_zero q) t))
    (ap (λ u. x *ℤ u) (is_zero-sound q (x ∷ ρ) (both_r (is_zero p) (is_zero q) t)) ∙ *ℤ-zero x)

mul-one : (x : ℤ) → pos 0 +ℤ x *ℤ pos 1 ≡ x
mul-one x = omega (zz, add_is (pos 0) (x *ℤ pos 1), mul_is x (pos 1))

place-sound : {ρ : List ℤ} {x : ℤ} (a : At ρ x) → x ≡ ev (place a) ρ
place-sound (here {x}) = sym (mul-one x)
place-sound (there {y = y} {ρ = ρ} a) = place-sound a ∙ sym (ap (λ t. ev (place a) ρ +ℤ t) (*ℤ-zero y) ∙ +ℤ_idr (ev (place a) ρ))

pub pol-sound : {ρ : List ℤ} {z : ℤ} (r : Is ρ z) → z ≡ ev (pol r) ρ
pol-sound (is_var a) = place-sound a
pol-sound {ρ} (is_add r s) = ap₂ ◌+ℤ◌ (pol-sound r) (pol-sound s) ∙ sym (ev-add (pol r) (pol s) ρ)
pol-sound {ρ} (is_mul r s) = ap₂ ◌*ℤ◌ (pol-sound r) (pol-sound s) ∙ sym (ev-mul (pol r) (pol s) ρ)
pol-sound {ρ} (is_neg r) = ap neg_ℤ (pol-sound r) ∙ sym (ev-neg (pol r) ρ)
pol-sound (is_pos {n = n}) = refl
pol-sound (is_negsuc {n = n}) = refl

pub diff-sound : {ρ : List ℤ} {a b : ℤ} (r : Both ρ a b) → a -ℤ b ≡ ev (diff r) ρ
diff-sound {ρ} (both r s) =
    ap₂ ◌+ℤ◌ (pol-sound r) (ap neg_ℤ (pol-sound s) ∙ sym (ev-neg (pol s) ρ)) ∙ sym (ev-add (pol r) (neg (pol s)) ρ)

pub ring : (ρ : List ℤ) {a b : ℤ} (r : Both ρ a b) → T (is_zero (diff r)) → a ≡ b
ring ρ {a} {b} r t = let e : a -ℤ b ≡ pos 0 = diff-sound r ∙ is_zero-sound (diff r) ρ t in omega (zz, sub_is a b)
