use Rattle.etcs_radio.proofs.PieceLemmas.{parts_taken, parts_join}
use Rattle.etcs_radio.proofs.laws.a_piece_may_be_cut.Goals as goal

-- the second part adds bytes only if the first was taken to its end
pub returns : goal.returns
returns c = record { used = parts_taken; held = parts_join }
