use Rattle.etcs_bits.proofs.LayoutLemmas.{read_as_spelled, read_rows_again}
use Rattle.etcs_bits.proofs.laws.a_record_is_read_as_it_is_spelled.Goals as goal

pub returns : goal.returns
returns g c = record { spelled = read_as_spelled g.T.Layout.format; rows = read_rows_again g.T.Layout.format }
