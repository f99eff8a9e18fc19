use Rattle.etcs_radio.proofs.TrainLemmas.{train_join}
use Rattle.etcs_radio.proofs.train_packet.TrainPacketLayout.put.Goals as goal

pub returns : goal.returns
returns c = rw (train_join c.args.self.now) c.put_own.ensures
