use Rattle.etcs_radio.proofs.PieceLemmas.{message_taken, rest_never_ready}
use Rattle.etcs_radio.proofs.laws.the_first_message_is_taken.Goals as goal

-- each front of a message with three bytes or more has the message's L_MESSAGE
pub returns : goal.returns
returns c = record { message = message_taken; rest = rest_never_ready }
