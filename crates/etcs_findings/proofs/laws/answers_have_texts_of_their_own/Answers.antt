use Rattle.std.proofs.Common.{◌≡◌, ◌∙◌, Some, ap, sym}
use Rattle.json.proofs.Printed.Trees.{document-print}
use Rattle.json.specs.Json.{Json, document}
use Rattle.etcs_findings.specs.Answer.{answer_json}
use Rattle.etcs_findings.proofs.AnswerLemmas.{answer_back, answer_depth, answer_from, answer_numbers}
use Rattle.etcs_findings.proofs.laws.answers_have_texts_of_their_own.Goals as goal

same_some : (x y : Json) → Some x ≡ Some y → x ≡ y
same_some x y is = cc

-- Both texts are read as one value, and from that value the answer is read.
pub returns : goal.returns
returns c =
    λ a b small fits same.
    let one = document-print (answer_json a) (answer_numbers a small) (answer_depth a) in
    let other = document-print (answer_json b) (answer_numbers b fits) (answer_depth b) in
    let value = same_some (answer_json a) (answer_json b) (sym one ∙ ap document same ∙ other) in
    sym (answer_back a small) ∙ ap answer_from value ∙ answer_back b fits
