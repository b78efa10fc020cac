-- What the program writes for what it reads ("Crossings and runs worked by hand"): `1 0` where the bytes are not whole, else the answer, m and the m lines of the run.
use Rattle.std.specs.Prelude.{cond, List, ℕ, ℤ, length}
use Rattle.overlay.specs.Outcome.{Lent, Outcome, outcome}
use Rattle.wire.specs.Asked.{is_taken, settings_of, decoded_list}
use Rattle.text.specs.Text.{head, written}

abbrev pub text_of : Outcome → List ℕ
text_of o = written o.answer o.lists.work o.lists.masks

unfoldable pub reply : List ℕ → List ℤ → Lent → List ℕ
reply bytes input l = let run = text_of (outcome (decoded_list bytes input) (settings_of bytes) l) in cond (is_taken bytes (length input)) run (head 1 0)
