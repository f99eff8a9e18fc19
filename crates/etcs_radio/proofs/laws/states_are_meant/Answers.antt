use Rattle.etcs_radio.proofs.StateLemmas.{ready-whole, state-ready, failed-broken, state-failed}
use Rattle.etcs_radio.proofs.laws.states_are_meant.Goals as goal

-- the tests decide the two facts
pub returns : goal.returns
returns c = record {
  ready = λ bytes. (ready-whole bytes, state-ready bytes);
  failed = λ bytes. (failed-broken bytes, state-failed bytes);
}
