use Rattle.etcs_document.specs.Verdict.{summary_of_text}
use Rattle.etcs_findings.proofs.VerdictLemmas.{yes_of_answer}
use Rattle.etcs_findings.proofs.laws.yes_means_sound_text.Goals as goal

-- The verdict is yes if and only if there are no findings, and then the line is sound.
pub returns : goal.returns
returns c =
    λ bytes.
    let found = yes_of_answer (summary_of_text bytes) in
    let sound = c.no_finding_means_sound_text.ensures bytes in
    (λ is. sound.0 (found.0 is), λ is. found.1 (sound.1 is))
