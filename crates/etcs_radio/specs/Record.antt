-- What radio messages hold (SUBSET-026, 8.6 and 8.7). NID_MESSAGE and L_MESSAGE follow from it.
use Rattle.std.specs.Prelude.{ℕ, Bool, List}
use Rattle.etcs_bits.specs.declared.variables.identity.Identity.{Identity}
use Rattle.etcs_profile.specs.declared.track.TrackPacket.{TrackPacket}
use Rattle.etcs_radio.specs.declared.train_packet.TrainPacket.{TrainPacket}

-- message 3: the time, whether to acknowledge, the group that it refers to, the packets
pub record Movement : Type 0 where
  pub time : ℕ
  pub ack : Bool
  pub lrbg : Identity
  pub packets : List TrackPacket

-- message 136: the time, the equipment on board, the packets
pub record Position : Type 0 where
  pub time : ℕ
  pub engine : ℕ
  pub packets : List TrainPacket
