use Rattle.etcs_radio.proofs.TrainLemmas.{train_join}
use Rattle.etcs_radio.proofs.laws.a_train_packet_of_a_list_is_spelled_as_by_itself.Goals as goal

pub returns : goal.returns
returns c = train_join
