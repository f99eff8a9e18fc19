-- The text of a form is read as that form.
use Rattle.std.proofs.Common.{◌≡◌, ◌∙◌, ◌≤◌, [], Some, ap, append-nil, arith, option_and_then, sym}
use Rattle.json.specs.Json as json
use Rattle.json.specs.Lex.{tokens}
use Rattle.json.specs.Tree.{json_tokens}
use Rattle.json.proofs.Printed.Decimals.{IsNumber-decimal}
use Rattle.json.proofs.Printed.Tokens.{tokens-print}
use Rattle.json.proofs.Printed.Trees.{ArePrintable-json_tokens, value-json_tokens}
use Rattle.serde_json.specs.Data.{Data}
use Rattle.serde_json.specs.Read.{max_depth, of_json, read}
use Rattle.serde_json.specs.Written.{compact_text, outline}
use Rattle.serde_json.proofs.Numbers.{number_of-decimal}
use Rattle.serde_json.proofs.Texts.{print-outline}
use Rattle.etcs_bits.specs.layout.Rows.{AreAllowed}
use Rattle.etcs_schema.specs.Codec.{Codec}
use Rattle.etcs_schema.specs.ReadBack.{IsReadBack, NumbersAreRead}

numbers_are_read : NumbersAreRead
numbers_are_read k fits = (number_of-decimal k fits, IsNumber-decimal k fits)

pub data_read_back : (d : Data) → IsReadBack max_depth d → read (compact_text d) ≡ Some d
unfolding IsReadBack
data_read_back d is =
    let j = outline d in
    let back = is numbers_are_read (omega arith) in
    let same = ap tokens (sym (print-outline d)) ∙ tokens-print (json_tokens j) (ArePrintable-json_tokens j back.1) ∙ sym (append-nil (json_tokens j)) in
    ap (λ o. option_and_then of_json (option_and_then (λ p. json.if_last p.0 p.1) o)) (ap (json.value max_depth) same ∙ value-json_tokens j max_depth [] back.2) ∙ back.0

pub text_read_back : {X : Type 0} (s : Codec X) → s.back.0 ≤ max_depth → (x : X) → AreAllowed (s.rows x) → read (compact_text (s.to x)) ≡ Some (s.to x)
text_read_back s shallow x allowed = data_read_back (s.to x) (s.back.1 max_depth shallow x allowed)
