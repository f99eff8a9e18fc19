use Rattle.std.proofs.Common.{◌≡◌, Ok, rules}
use Rattle.std.proofs.lemmas.Result.{err_from_is_err_and}
use Rattle.etcs_radio.specs.Meaning.{read_message}
use Rattle.etcs_run.specs.RadioHeld.{kept_bytes, messages_written}
use Rattle.etcs_run.specs.RadioStream.{message_json}
use Rattle.etcs_run.proofs.RadioLemmas.{begins_told}
use Rattle.etcs_run.proofs.AnswerLemmas.{put_failed}
use Rattle.etcs_run.proofs.radio_decoding.RadioDecoding.answer_message.Goals as goal

-- the part of a line that was written is a beginning of the answer
pub returns-in_err-put-in-Ok-clause-answers_line : goal.returns-in_err-put-in-Ok-clause-answers_line
returns-in_err-put-in-Ok-clause-answers_line g c =
    let passed_on = err_from_is_err_and c.from_residual.result c.from_residual.ensures.1 in
    let means : message_json (read_message (kept_bytes c.args.self.now)) ≡ Ok c.as_slice.result.now = search rules in
    rw passed_on.1 (put_failed passed_on.0 c.put.ensures.written (begins_told (messages_written c.args.self.now) means))
