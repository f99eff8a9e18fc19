-- Tokens that are appended to a line one after the other.
use Rattle.std.proofs.Common.{◌≡◌, ◌∙◌, ◌++◌, List, ap, sym}
use Rattle.std.proofs.lemmas.List.Sums.{fold-append}
use Rattle.json.specs.Token.{Token}
use Rattle.etcs_digits.specs.JsonLineWriter.{Line, put, puts}

-- some tokens, and then others
pub puts_then : (a b : List Token) (x y z : Line) → y ≡ puts x a → z ≡ puts y b → z ≡ puts x (a ++ b)
puts_then a b x y z one two = two ∙ ap (λ l. puts l b) one ∙ sym (fold-append put x a b)
