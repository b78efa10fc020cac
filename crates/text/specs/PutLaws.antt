-- Laws of text put into a list: one text behind another (`put_more`), none, one byte.
use Rattle.std.specs.Prelude.{◌≡◌, refl, List, [], ◌∷◌, ◌++◌, ℕ, ◌+◌, ◌≤◌, length, set}
use Rattle.std.proofs.Common.{sym, ap, ◌∙◌, arith, length-append}
use Rattle.std.proofs.lemmas.List.Edits.{sets}
use Rattle.std.proofs.Math.Seq.{length-sets, set_out}
use Rattle.whole.proofs.KindLaws.{sets_append}
use Rattle.text.specs.Put.{Put}

pub put_none : {out : List ℕ} {at : ℕ} → Put out at [] at out
put_none = record { place = omega arith; list = refl }

pub put_more : {out s t xs ys : List ℕ} {at r q : ℕ} → Put out at s r xs → Put xs r t q ys → Put out at (s ++ t) q ys
put_more {out} {s} {t} {xs} {ys} {at} {r} p q =
    record {
      place = q.place ∙ rw (p.place, length-append s t) (omega arith);
      list = q.list ∙ rw (p.place, p.list) (sym (sets_append out at s t));
    }

-- the same text by another name
pub put_as : {out s t xs : List ℕ} {at r : ℕ} → s ≡ t → Put out at s r xs → Put out at t r xs
put_as {out} {xs} {at} {r} e p = rw e at p

pub put_byte : {out xs : List ℕ} {at : ℕ} (b : ℕ) → xs ≡ set out at b → Put out at (b ∷ []) (at + 1) xs
put_byte b e = record { place = refl; list = e }

pub put_no_room : {out xs : List ℕ} {at : ℕ} (b : ℕ) → length out ≤ at → xs ≡ out → Put out at (b ∷ []) (at + 1) xs
put_no_room {out} {at} b h e = put_byte b (e ∙ sym (set_out out at b h))

pub put_length : {out s xs : List ℕ} {at r : ℕ} → Put out at s r xs → length xs ≡ length out
put_length {out} {s} {at} p = ap length p.list ∙ length-sets out at s

-- ---- text still to come: with it the place and the list are those of all

pub record Coming (out₀ : List ℕ) (at : ℕ) (all out : List ℕ) (next : ℕ) (rest : List ℕ) : Type 0 where
  pub place : next + length rest ≡ at + length all
  pub list : sets out next rest ≡ sets out₀ at all
  pub kept : length out ≡ length out₀

pub coming-all : {out : List ℕ} {at : ℕ} {all : List ℕ} → Coming out at all out at all
coming-all = record { place = refl; list = refl; kept = refl }

module _ {out₀ : List ℕ} {at : ℕ} {all out : List ℕ} {next : ℕ} {rest : List ℕ} (c : Coming out₀ at all out next rest) where
  pub coming-step : {s more : List ℕ} {r : ℕ} {xs : List ℕ} → rest ≡ s ++ more → Put out next s r xs → Coming out₀ at all xs r more
  coming-step {s} {more} e p =
      record {
        place = rw p.place (omega (arith, c.place, ap length e, length-append s more));
        list = rw (p.place, p.list) (sym (sets_append out next s more) ∙ ap (sets out next) (sym e) ∙ c.list);
        kept = put_length p ∙ c.kept;
      }

  pub coming-none : rest ≡ [] → Put out₀ at all next out
  coming-none e = record { place = omega (arith, c.place, ap length e); list = sym (ap (sets out next) e) ∙ c.list }
