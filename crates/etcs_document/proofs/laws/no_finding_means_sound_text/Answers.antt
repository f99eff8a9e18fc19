use Rattle.etcs_document.proofs.SoundLemmas.{no_finding_sound}
use Rattle.etcs_document.proofs.laws.no_finding_means_sound_text.Goals as goal

-- The groups of a document are controlled groups, so the law of lines applies to them.
pub returns : goal.returns
returns c = no_finding_sound c.no_finding_means_sound_line.ensures
