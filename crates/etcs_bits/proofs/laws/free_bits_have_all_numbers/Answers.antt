use Rattle.etcs_bits.proofs.ValueLemmas.{free_has_numbers, free_laid_out}
use Rattle.etcs_bits.proofs.laws.free_bits_have_all_numbers.Goals as goal

pub returns : goal.returns
returns c = record { numbers = free_has_numbers; laid_out = free_laid_out }
