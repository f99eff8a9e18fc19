use Rattle.etcs_findings.proofs.WritingLemmas.{adds_then, then_adds}
use Rattle.etcs_findings.specs.Findings.{with_place}
use Rattle.etcs_findings.proofs.finding.put_place.Goals as goal

-- one part after the other
pub returns : goal.returns
unfolding with_place
returns c =
    let balise = adds_then (adds_then c.in_ok-put_site.ensures c.in_ok-put_option.ensures) c.in_ok-put_option-2.ensures in
    then_adds _ _ _ (adds_then balise c.in_ok-put_option-3.ensures) c.put_direction.ensures
