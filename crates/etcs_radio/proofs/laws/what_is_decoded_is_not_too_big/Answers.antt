use Rattle.etcs_radio.proofs.EncodeLemmas.{never_too_big}
use Rattle.etcs_radio.proofs.laws.what_is_decoded_is_not_too_big.Goals as goal

-- L_MESSAGE counts the bytes
pub returns : goal.returns
returns c = never_too_big
