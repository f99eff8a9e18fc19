use Rattle.etcs_bits.proofs.FieldLemmas.{field_is_read, field_fault_is_read, taken_is_free}
use Rattle.etcs_bits.proofs.laws.a_field_is_read_as_it_is_spelled.Goals as goal

pub returns : goal.returns
returns c = record { number = field_is_read; fault = field_fault_is_read; taken = taken_is_free }
