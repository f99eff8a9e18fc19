use Rattle.etcs_radio.proofs.CutStreamLemmas.{stream_is, messages_come_out, cut_off_is_held, broken_is_failed, broken_is_held}
use Rattle.etcs_radio.proofs.laws.streams_are_cut.Goals as goal

-- a stream is messages and a rest in one way only
pub returns : goal.returns
returns c = record {
  cut = stream_is;
  messages = messages_come_out;
  cut_off = cut_off_is_held;
  failed = broken_is_failed;
  held = broken_is_held;
}
