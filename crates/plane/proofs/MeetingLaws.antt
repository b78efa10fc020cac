-- What the four signs make of a pair, said as document 01 says it, by counting zeros ("Crossing"); and what each answer says of the four turns.
use Rattle.std.specs.Prelude.{◌≡◌, refl, Bool, true, false, cond, ◌||◌, ℕ, ◌+◌, ◌%◌, eqb, ℤ, pos}
use Rattle.std.proofs.Common.{inl, inr, arith}
use Rattle.std.specs.Int.Signed.{lt_z}
use Rattle.whole.specs.Order.{zz, lt-true, lt-false}
use Rattle.geom.specs.declared.Segment.{Segment}
use Rattle.geom.specs.Plane.{Before, sign_of, side_of}
use Rattle.plane.specs.Apart.{OneSide, OneZero, o₁, o₂, off_e, off_f, at_ends}
use Rattle.plane.proofs.TurnsLaws.{level-both}
use Rattle.plane.specs.Meeting.{Case, Parted, Sign, by_count, meeting, meeting_by, under, level, over, all_zero, clear, end_of_f, end_of_e, through}

pub sign : (o : ℤ) → Sign o (sign_of o)
sign o = go (lt_z o (pos 0)) (lt_z (pos 0) o) refl refl
  where
    go : (b c : Bool) → lt_z o (pos 0) ≡ b → lt_z (pos 0) o ≡ c → Sign o (cond b 0 (cond c 2 1))
    go true c h k = under (omega (zz, lt-true o (pos 0) h))
    go false true h k = over (omega (zz, lt-true (pos 0) o k))
    go false false h k = level (omega (zz, lt-false o (pos 0) h, lt-false (pos 0) o k))

data Couple (o r : ℤ) : ℕ → Bool → Type 0 where
  alike : OneSide o r → Couple o r 0 true
  both : o ≡ pos 0 → r ≡ pos 0 → Couple o r 2 true
  one : OneZero o r → Couple o r 1 false
  parted : Parted o r → Couple o r 0 false

couple : {o r : ℤ} {s t : ℕ} → Sign o s → Sign r t → Couple o r (s % 2 + t % 2) (eqb s t)
couple (under h) (under k) = alike (inr (h, k))
couple (under h) (level k) = one (inr (omega zz, k))
couple (under h) (over k) = parted (inl (omega zz))
couple (level h) (under k) = one (inl (h, omega zz))
couple (level h) (level k) = both h k
couple (level h) (over k) = one (inl (h, omega zz))
couple (over h) (under k) = parted (inr (omega zz))
couple (over h) (level k) = one (inr (omega zz, k))
couple (over h) (over k) = alike (inl (h, k))

not_level : {o r : ℤ} → OneZero o r → o ≡ pos 0 → r ≡ pos 0 → ⊥
not_level (inl h) p q = h.1 q
not_level (inr h) p q = h.0 p

off-level : {o r : ℤ} → Parted o r → o ≡ pos 0 → ⊥
off-level (inl h) p = omega zz
off-level (inr h) p = omega zz

regroup : (k l m n : ℕ) → k + l + m + n ≡ (k + l) + (m + n)
regroup k l m n = omega arith

module _ (e f : Segment) (be : Before e.a e.b) (bf : Before f.a f.b) where
  cases : {m n : ℕ} {b c : Bool} → Couple (o₁ e f) (o₂ e f) m b → Couple (o₁ f e) (o₂ f e) n c → Case e f (by_count (m + n) (b || c))
  cases (alike h) (alike k) = clear (off_e h)
  cases (alike h) (both k l) = clear (off_e h)
  cases (alike h) (one k) = clear (off_e h)
  cases (alike h) (parted k) = clear (off_e h)
  cases (both h k) (alike l) = clear (off_f l)
  cases (one h) (alike k) = clear (off_f k)
  cases (parted h) (alike k) = clear (off_f k)
  cases (both h k) (both l m) = all_zero h k l m
  cases (one h) (one k) = clear (at_ends h k)
  cases (one h) (parted k) = end_of_f h k
  cases (parted h) (one k) = end_of_e h k
  cases (parted h) (parted k) = through h k
  cases (both h k) (one l) = let z = level-both e f h k be in absurd (not_level l z.0 z.1)
  cases (both h k) (parted l) = absurd (off-level l (level-both e f h k be).0)
  cases (one h) (both k l) = let z = level-both f e k l bf in absurd (not_level h z.0 z.1)
  cases (parted h) (both k l) = absurd (off-level h (level-both f e k l bf).0)

  pub case : Case e f (meeting e f)
  unfolding meeting_by side_of
  case = rw (regroup (sign_of (o₁ e f) % 2) (sign_of (o₂ e f) % 2) (sign_of (o₁ f e) % 2) (sign_of (o₂ f e) % 2))
      (cases (couple (sign (o₁ e f)) (sign (o₂ e f))) (couple (sign (o₁ f e)) (sign (o₂ f e))))
