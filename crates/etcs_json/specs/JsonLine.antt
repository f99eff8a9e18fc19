-- A record as a line of JSON: one value without blanks, its keys in byte order.
use Rattle.std.specs.Prelude.{◌≡◌, ◌++◌, ℕ, List, Some, Ok, codes}
use Rattle.serde_json.specs.Read.{read}
use Rattle.serde_json.specs.Written.{compact_text}
use Rattle.etcs_schema.specs.Codec.{Codec}

unfoldable pub json_line_text : {X : Type 0} → Codec X → X → List ℕ
json_line_text codec x = compact_text (codec.to x) ++ codes "\n"

-- the line, without its end, is read as x
abbrev pub IsReadAs : {X : Type 0} → Codec X → List ℕ → X → Type 0
IsReadAs codec line x = (read line ≡ Some (codec.to x)) × (codec.of (codec.to x) ≡ Ok x)
