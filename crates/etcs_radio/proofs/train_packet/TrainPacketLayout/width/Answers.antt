use Rattle.etcs_radio.proofs.TrainLemmas.{train_width}
use Rattle.etcs_radio.proofs.train_packet.TrainPacketLayout.width.Goals as goal

pub returns : goal.returns
returns c = rw (train_width c.args.self.now) c.own_width.ensures
