use Rattle.std.proofs.Common.{◌≡◌, ◌∙◌, ◌==◌, ℕ, Bool, true, false, List, [], ◌∷◌, ap, arith, length, refl, sym}
use Rattle.std.proofs.lemmas.Bool.Decides.{nat_tests}
use Rattle.etcs_rows.specs.Fields.{field_text, single_after}
use Rattle.etcs_rows.proofs.field.Field.is_empty.Goals as goal

has_bytes : (c : ℕ) (text : List ℕ) → (length (c ∷ text) == 0) ≡ false
has_bytes c text = grind (arith, nat_tests)

-- one quote for two leaves a byte of each text that has one
alike : (has_quotes : Bool) (raw : List ℕ) → (length raw == 0) ≡ (length (field_text has_quotes raw) == 0)
alike true [] = refl
alike true (c ∷ raw) = has_bytes c raw ∙ sym (has_bytes c (single_after (c == 34) raw))
alike false raw = refl

pub returns : goal.returns
returns c =
    c.is_empty.ensures ∙ alike c.self.inside.has_quotes c.self.inside.raw.now ∙ ap (λ (text : List ℕ). length text == 0) c.self.view_is
