use Rattle.json.proofs.Printed.Trees.{document-print}
use Rattle.etcs_findings.specs.Answer.{answer_json}
use Rattle.etcs_findings.proofs.AnswerLemmas.{answer_depth, answer_numbers}
use Rattle.etcs_findings.proofs.laws.answers_are_json.Goals as goal

-- Its numbers are numbers of JSON, and it is not too deep.
pub returns : goal.returns
returns c = λ a small. document-print (answer_json a) (answer_numbers a small) (answer_depth a)
