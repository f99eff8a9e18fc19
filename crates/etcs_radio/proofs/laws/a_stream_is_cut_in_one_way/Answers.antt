-- Two messages at the front of the same bytes have the same L_MESSAGE.
use Rattle.etcs_radio.proofs.StreamLemmas.{cut_once}
use Rattle.etcs_radio.proofs.laws.a_stream_is_cut_in_one_way.Goals as goal

pub returns-clause-messages : goal.returns-clause-messages
returns-clause-messages c = λ messages others rest other bytes one two. (cut_once messages others rest other bytes one two).0

pub returns-clause-rest : goal.returns-clause-rest
returns-clause-rest c = λ messages others rest other bytes one two. (cut_once messages others rest other bytes one two).1
