-- A text's tokens, read from its remaining bytes.
use Rattle.std.specs.Prelude.{◌≡◌, ℕ, ◌==◌, List, Bool, true, false, Option, Some, if◌then◌else◌, get_or}
use Rattle.std.specs.List.{list_all}
use Rattle.json.specs.Lex.{between, lex, fresh, after_value, after_comma, punctuate}
use Rattle.json.specs.Run.{is_plain}
use Rattle.json.specs.Token.{Token}
use Rattle.memchr.specs.Find.{IsFirstByte, is_byte}
use Rattle.etcs_document.specs.declared.token_reader.Place.{Place}
use Rattle.etcs_document.specs.declared.token_reader.Place.TheVariants.{Fresh, AfterValue, AfterComma}
use Rattle.etcs_document.specs.declared.token_reader.TextKind.{TextKind}
use Rattle.etcs_document.specs.declared.token_reader.TextKind.TheVariants.{Telegram, Message}

-- the tokens of the remaining bytes, in this state
abbrev pub remaining_tokens : Place → List ℕ → List Token
remaining_tokens Fresh rest = punctuate fresh (lex between rest)
remaining_tokens AfterValue rest = punctuate after_value (lex between rest)
remaining_tokens AfterComma rest = punctuate after_comma (lex between rest)

-- a value or a key may begin in this state
abbrev pub can_begin : Place → Bool
can_begin Fresh = true
can_begin AfterValue = false
can_begin AfterComma = true

-- a list or an object may end in this state
abbrev pub can_close : Place → Bool
can_close Fresh = true
can_close AfterValue = true
can_close AfterComma = false

-- no byte needs an escape in a string
abbrev pub ArePlain : List ℕ → Type 0
ArePlain text = list_all is_plain text ≡ true

-- the length of a text of this kind, given the bytes after its opening quote: a telegram's text has 54 or 208
-- bytes, and a message's ends at the first quote
abbrev pub IsTextLen : TextKind → List ℕ → Option ℕ → Type 0
IsTextLen Telegram begun len = len ≡ Some (if get_or begun 54 0 == 34 then 54 else 208)
IsTextLen Message begun len = IsFirstByte (is_byte 34) begun len
