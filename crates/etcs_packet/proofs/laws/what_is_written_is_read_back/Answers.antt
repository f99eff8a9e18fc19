use Rattle.etcs_packet.proofs.WrittenLemmas.{whole_written_begins}
use Rattle.etcs_packet.proofs.WholeLemmas.{begins_means}
use Rattle.etcs_packet.proofs.laws.what_is_written_is_read_back.Goals as goal

-- the head and the list stand at the beginning
pub returns : goal.returns
returns g c = record {
  begins = λ mark stop h xs bits s.
      whole_written_begins g.H.Layout.format.rows g.T.Layout.format.rows h xs stop g.T.Layout.format.fields bits c.requires mark g.T.Layout.format.laid.are_rows s;
  means = λ mark stop h xs bits s.
      let begins = whole_written_begins g.H.Layout.format.rows g.T.Layout.format.rows h xs stop g.T.Layout.format.fields bits c.requires mark g.T.Layout.format.laid.are_rows s in
      begins_means g.H.Layout.format.laid g.T.Layout.format.laid stop h xs bits c.requires begins;
}
