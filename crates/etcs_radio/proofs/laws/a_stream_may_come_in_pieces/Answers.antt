use Rattle.etcs_radio.proofs.CuttingLemmas.{pieces, all_pieces}
use Rattle.etcs_radio.proofs.laws.a_stream_may_come_in_pieces.Goals as goal

-- each byte is met in the same state
pub returns : goal.returns
returns c = record { two = pieces; all = all_pieces }
