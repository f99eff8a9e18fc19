use Rattle.std.proofs.Common.{[], refl}
use Rattle.std.proofs.lemmas.Bool.{lt-ltb}
use Rattle.etcs_packet.proofs.EndLemmas.{no_end_here}
use Rattle.etcs_packet.proofs.laws.a_telegram_without_its_mark_has_no_end.Goals as goal

-- the list does not end here, and NID_PACKET does not fit
pub returns : goal.returns
returns g c = λ p within few. record {
  whole = [];
  reached = p;
  follow = refl;
  goes_on = rw (lt-ltb _ _ few) refl;
  is_fault = no_end_here g.T.Layout.format.fields p c.requires few;
}
