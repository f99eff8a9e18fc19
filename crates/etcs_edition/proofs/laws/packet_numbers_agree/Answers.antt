use Rattle.std.proofs.Common.{sym, ◌∙◌}
use Rattle.std.proofs.lemmas.Bool.{eqb-true, eq-eqb}
use Rattle.etcs_profile.specs.Track.{track_number}
use Rattle.etcs_edition.proofs.MessageLemmas.{has_its_number}
use Rattle.etcs_edition.proofs.laws.packet_numbers_agree.Goals as goal

-- each packet begins with its number
pub returns : goal.returns
returns c = λ p n.
    (λ is. eqb-true (track_number p) n (sym (has_its_number n p) ∙ is), λ is. has_its_number n p ∙ eq-eqb (track_number p) n is)
