use Rattle.etcs_bits.proofs.NumberLemmas.{length-num, num_of_bits-small, num-num_of_bits}
use Rattle.etcs_bits.proofs.laws.numbers_are_their_bits.Goals as goal

pub returns : goal.returns
returns c = record { count = length-num; number = num_of_bits-small; bits = num-num_of_bits }
