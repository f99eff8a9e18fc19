use Rattle.std.proofs.Common.{◌≡◌, ℕ, false, List, inl, inr, sym}
use Rattle.std.proofs.lemmas.Bool.{cases_Bool}
use Rattle.std.proofs.lemmas.Str.{IsUtf8-from_is_utf8, is_utf8-from_IsUtf8}
use Rattle.std.specs.Str.{IsUtf8, is_utf8}
use Rattle.etcs_table.proofs.telegram_rows.is_utf8.Goals as goal

not_utf8 : (text : List ℕ) → (IsUtf8 text → ⊥) → false ≡ is_utf8 text
not_utf8 text never = elim (cases_Bool (is_utf8 text)) [
  | inl e ↦ absurd (never (IsUtf8-from_is_utf8 text e))
  | inr e ↦ sym e
]

pub returns-in-Ok : goal.returns-in-Ok
returns-in-Ok c = sym (is_utf8-from_IsUtf8 c.args.text.now c.in-Ok.ensures.cases.1)

pub returns-in-Err : goal.returns-in-Err
returns-in-Err c = not_utf8 c.args.text.now c.in-Err.ensures.cases.0
