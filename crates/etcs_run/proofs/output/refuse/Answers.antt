use Rattle.std.proofs.Common.{◌≡◌, rules}
use Rattle.std.proofs.lemmas.Result.{err_from_is_err_and}
use Rattle.etcs_document.specs.Refusal.{refusal_words}
use Rattle.etcs_run.proofs.RunLemmas.{Writes-begun, Writes-whole}
use Rattle.etcs_run.proofs.output.refuse.Goals as goal

-- the refusal was cut off
pub returns-in_err-put-clause-writes : goal.returns-in_err-put-clause-writes
returns-in_err-put-clause-writes g c =
    let residual = c.from_residual-in_err-put in
    let passed_on = err_from_is_err_and residual.result residual.ensures.1 in
    let text : c.as_bytes.result.now ≡ refusal_words c.args.why.now = search rules in
    rw passed_on.1 (Writes-begun passed_on.0 c.put.ensures.written text)

-- it was written
pub returns-clause-writes : goal.returns-clause-writes
returns-clause-writes g c =
    let text : c.as_bytes.result.now ≡ refusal_words c.args.why.now = search rules in
    Writes-whole c.in_ok-put.ensures.written text
