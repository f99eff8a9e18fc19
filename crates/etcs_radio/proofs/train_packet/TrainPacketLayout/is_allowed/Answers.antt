use Rattle.etcs_radio.proofs.TrainLemmas.{train_allowed}
use Rattle.etcs_radio.proofs.train_packet.TrainPacketLayout.is_allowed.Goals as goal

pub returns-clause-allowed : goal.returns-clause-allowed
returns-clause-allowed c = (λ _. train_allowed c.args.self.now c.is_sound.ensures.allowed, λ _. c.is_sound.ensures.always)
