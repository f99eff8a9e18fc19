use Rattle.etcs_radio.proofs.CuttingLemmas.{call-ready, call-others}
use Rattle.etcs_radio.proofs.laws.a_stream_is_fed_call_by_call.Goals as goal

-- a byte that is taken while the splitter waits is held
pub returns : goal.returns
returns c = record { ready = call-ready; others = call-others }
