-- The common point of two segments where neither the signs nor the order of points keep them apart.
-- e's ends strictly on both sides of the line of f, and f's ends not on one side of the line of e: the crossing, by its weights on both, strictly inside e.
-- Strictly on both sides in both: it is strictly inside both (a middle crossing). With one zero: that end of f lies strictly inside e (touching).
-- On one line: an end of one lies strictly inside the other, unless one starts where or after the other ends, or their ends are the same.
use Rattle.std.specs.Prelude.{◌≡◌, ◌⊎◌, ℤ, pos, ◌≤ℤ◌, ◌<ℤ◌}
use Rattle.std.proofs.Common.{sym, subst, inl, inr}
use Rattle.whole.specs.Order.{zz, neg_is}
use Rattle.whole.specs.Sign.{Tri, less, same, more}
use Rattle.whole.proofs.SignLaws.{tri}
use Rattle.geom.specs.declared.Point.{Point}
use Rattle.geom.specs.declared.Segment.{Segment}
use Rattle.geom.specs.Plane.{Before}
use Rattle.geom.specs.Off.{Off, On, Is}
use Rattle.geom.specs.Order.{Order, sooner, equal, later, order}
use Rattle.plane.specs.Apart.{OneZero, o₁, o₂, Apart, in_line_lem}
use Rattle.plane.specs.Scaled.{at, of_is, at_before}
use Rattle.plane.proofs.TurnsLaws.{falls, rises}
use Rattle.plane.proofs.WeightsLaws.{weights}
use Rattle.plane.proofs.Ends.{at_a, at_b}
use Rattle.plane.specs.Mean.{Inner, mean_on, meet, meet_on_e, meet_on_f}
use Rattle.plane.proofs.MeanLaws.{mean-inner}
use Rattle.plane.specs.Meeting.{Parted}
use Rattle.plane.specs.Pierce.{Crossed, Different, Inside, Touch, a_of_f, b_of_f, a_of_e, b_of_e}

-- ---- signs of a couple
abbrev Loose : ℤ → ℤ → Type 0
Loose p q = ((p ≤ℤ pos 0) × (pos 0 ≤ℤ q)) ⊎ ((pos 0 ≤ℤ p) × (q ≤ℤ pos 0))

parted_loose : {p q : ℤ} → Parted p q → Loose p q
parted_loose (inl h) = inl (omega zz)
parted_loose (inr h) = inr (omega zz)

one_loose : {p q : ℤ} → OneZero p q → Loose p q
one_loose {p} {q} (inl h) = go (tri q (pos 0))
  where
    go : Tri q (pos 0) → Loose p q
    go (less k) = inr (omega zz)
    go (same k) = inr (omega zz)
    go (more k) = inl (omega zz)
one_loose {p} {q} (inr h) = go (tri p (pos 0))
  where
    go : Tri p (pos 0) → Loose p q
    go (less k) = inl (omega zz)
    go (same k) = inr (omega zz)
    go (more k) = inr (omega zz)

upward : {p q : ℤ} → p <ℤ q → Parted p q → (p <ℤ pos 0) × (pos 0 <ℤ q)
upward l (inl h) = omega zz
upward l (inr h) = let z : ⊥ = omega zz in absurd z

downward : {p q : ℤ} → q <ℤ p → Parted p q → (pos 0 <ℤ p) × (q <ℤ pos 0)
downward l (inl h) = let z : ⊥ = omega zz in absurd z
downward l (inr h) = omega zz

-- ---- the line of f parts the ends of e
record Pierced (e f : Segment) : Type 0 where
  P : Off
  on_e : On e P
  on_f : On f P
  inside_e : Before e.a e.b → Inner e P
  inside_f : Parted (o₁ e f) (o₂ e f) → Before f.a f.b → Inner f P

pierce : (e f : Segment) → Parted (o₁ f e) (o₂ f e) → Loose (o₁ e f) (o₂ e f) → Pierced e f
pierce e f (inl h) (inr k) =
    let l : o₁ f e <ℤ o₂ f e = omega zz in
    let M = meet_on_e e f l (omega zz) (omega zz) in
    let N = meet_on_f e f l k.0 k.1 in
    record {
      P = meet e f l;
      on_e = mean_on M;
      on_f = mean_on N;
      inside_e = λ be. mean-inner be M (omega (zz, neg_is (o₁ f e))) (omega zz);
      inside_f = λ s bf. let t = downward (falls e f l) s in mean-inner bf N (omega zz) (omega (zz, neg_is (o₂ e f)));
    }
pierce e f (inr h) (inl k) =
    let l : o₁ e f <ℤ o₂ e f = rises e f (omega zz) in
    let M = meet_on_f f e l (omega zz) (omega zz) in
    let N = meet_on_e f e l k.0 k.1 in
    record {
      P = meet f e l;
      on_e = mean_on M;
      on_f = mean_on N;
      inside_e = λ be. mean-inner be M (omega zz) (omega (zz, neg_is (o₂ f e)));
      inside_f = λ s bf. let t = upward l s in mean-inner bf N (omega (zz, neg_is (o₁ e f))) (omega zz);
    }
pierce e f (inl h) (inl k) = let z : ⊥ = omega (zz, falls e f (omega zz)) in absurd z
pierce e f (inr h) (inr k) = let z : ⊥ = omega (zz, rises e f (omega zz)) in absurd z

pub crossed : (e f : Segment) → Parted (o₁ e f) (o₂ e f) → Parted (o₁ f e) (o₂ f e) → Crossed e f
crossed e f s t =
    let C = pierce e f t (parted_loose s) in
    record { P = C.P; on_e = C.on_e; on_f = C.on_f; inside_e = C.inside_e; inside_f = C.inside_f s }

inside_of : {e : Segment} {P : Off} {p : Point} → Inner e P → Is P p → Inside e p
inside_of {e} {P} {p} i h = record {
  after = at_before P.d P.over (subst (λ (t : Point). Before (at P.d e.a) t) (of_is h) i.left);
  ahead = at_before P.d P.over (subst (λ (t : Point). Before t (at P.d e.b)) (of_is h) i.right);
}

pub touch_sym : {e f : Segment} → Touch e f → Touch f e
touch_sym (a_of_f z i) = a_of_e z i
touch_sym (b_of_f z i) = b_of_e z i
touch_sym (a_of_e z i) = a_of_f z i
touch_sym (b_of_e z i) = b_of_f z i

pub touched : (e f : Segment) → Before e.a e.b → Before f.a f.b → OneZero (o₁ e f) (o₂ e f) → Parted (o₁ f e) (o₂ f e) → Touch e f
touched e f be bf o t = go o
  where
    C : Pierced e f
    C = pierce e f t (one_loose o)

    go : OneZero (o₁ e f) (o₂ e f) → Touch e f
    go (inl z) = a_of_f z.0 (inside_of (C.inside_e be) (at_a e (weights bf C.on_f) C.on_e.line z.0 z.1))
    go (inr z) = b_of_f z.1 (inside_of (C.inside_e be) (at_b e (weights bf C.on_f) C.on_e.line z.0 z.1))

module _ (e f : Segment) (be : Before e.a e.b) (bf : Before f.a f.b) (ne : Different e f) (h1 : o₁ e f ≡ pos 0) (h2 : o₂ e f ≡ pos 0) (h3 : o₁ f e ≡ pos 0) (h4 : o₂ f e ≡ pos 0) where
  overlap : Before f.a e.b → Before e.a f.b → Order e.a f.a → Order e.b f.b → Touch e f
  overlap p q (sooner s) o = a_of_f h1 (record { after = s; ahead = p })
  overlap p q (later s) o = a_of_e h3 (record { after = s; ahead = q })
  overlap p q (equal s) (sooner t) = b_of_e h4 (record { after = subst (λ (u : Point). Before u e.b) s be; ahead = t })
  overlap p q (equal s) (later t) = b_of_f h2 (record { after = subst (λ (u : Point). Before u f.b) (sym s) bf; ahead = t })
  overlap p q (equal s) (equal t) = absurd (ne (s, t))

  pub lined_up : Apart e f ⊎ Touch e f
  lined_up = go (order e.b f.a) (order f.b e.a)
    where
      go : Order e.b f.a → Order f.b e.a → Apart e f ⊎ Touch e f
      go (sooner p) q = inl (in_line_lem h1 h2 h3 h4 (inl (inr p)))
      go (equal p) q = inl (in_line_lem h1 h2 h3 h4 (inl (inl p)))
      go (later p) (sooner q) = inl (in_line_lem h1 h2 h3 h4 (inr (inr q)))
      go (later p) (equal q) = inl (in_line_lem h1 h2 h3 h4 (inr (inl q)))
      go (later p) (later q) = inr (overlap p q (order e.a f.a) (order e.b f.b))
