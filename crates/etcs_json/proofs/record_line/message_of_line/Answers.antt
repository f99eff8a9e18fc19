use Rattle.etcs_json.specs.AnyMessage.{message}
use Rattle.etcs_json.proofs.LawLemmas.{line_again, message_again}
use Rattle.etcs_json.proofs.record_line.message_of_line.Goals as goal

-- each message is in range, so that its text is read again
pub returns-clause-read : goal.returns-clause-read
returns-clause-read c = let it = c.in_ok-record in line_again message it.record c.args.line.now it.ensures (message_again it.record c.prove_message_allowed.ensures)
