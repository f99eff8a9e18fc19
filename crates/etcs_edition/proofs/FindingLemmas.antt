-- Findings by the edition are those of the check.
use Rattle.std.proofs.Common.{◌≡◌, Bool, true, false, List, refl, sym, ◌∙◌, inl, inr}
use Rattle.std.proofs.lemmas.Bool.{true≢false}
use Rattle.etcs_group.specs.Group.{Aspects}
use Rattle.etcs_check.specs.Facts.{StatesFact, is_fact}
use Rattle.etcs_check.specs.Laws.{AreControlled}
use Rattle.etcs_check.specs.Line.{findings}
use Rattle.etcs_check.specs.Violation.{HasSiteParts, ViolatesSite}
use Rattle.etcs_check.specs.declared.finding.Finding.{Finding}
use Rattle.etcs_check.specs.declared.finding.Site.{Site}
use Rattle.etcs_check.specs.declared.finding.Site.TheVariants as sites
use Rattle.etcs_check.proofs.CellLemmas.{each_fact_is_listed, findings_are_the_facts_in_order}
use Rattle.etcs_check.proofs.ViolationLemmas.{findings_are_facts, parts_hold_unless_found}
use Rattle.etcs_radio.specs.declared.message.Message.{Message}
use Rattle.etcs_edition.proofs.RuleLemmas.{rules_agree}
use Rattle.etcs_edition.specs.Findings.{IsViolated, AreFindings}

violation_parts : (groups : List Aspects) (messages : List Message) (f : Finding) (s : Site) → HasSiteParts groups messages f s
    → ViolatesSite groups messages f s → ⊥
violation_parts groups messages f (sites.Group g) parts h =
    let p = parts h.0 h.1 in
    elim h.2 [
      | inl w ↦ w.1 (p.0 w.0)
      | inr r ↦ r.4 (p.1 r.0 r.1 r.2 r.3)
    ]
violation_parts groups messages f (sites.Message i) parts h = h.3 (parts h.0 h.1 h.2)

pub fact_against : (groups : List Aspects) (messages : List Message) (f : Finding) → AreControlled groups
    → StatesFact groups messages f → IsViolated groups messages f
fact_against groups messages f controlled states parts =
    let listed = each_fact_is_listed groups messages f states in
    violation_parts groups messages f f.site ((rules_agree groups messages f).0 parts)
    ((findings_are_facts groups messages listed.0 f listed.1).1 controlled)

decided : (b : Bool) → (b ≡ false → ⊥) → b ≡ true
decided true h = refl
decided false h = absurd (h refl)

pub against_fact : (groups : List Aspects) (messages : List Message) (f : Finding) → AreControlled groups
    → IsViolated groups messages f → StatesFact groups messages f
against_fact groups messages f controlled against =
    decided (is_fact groups messages f) (λ none. against ((rules_agree groups messages f).1 (parts_hold_unless_found groups messages f controlled (λ i here.
    true≢false (sym (findings_are_facts groups messages i f here).0 ∙ none)))))

pub read_findings : (groups : List Aspects) (messages : List Message) (found : List Finding) → AreControlled groups
    → found ≡ findings groups messages → AreFindings groups messages found
read_findings groups messages found controlled is =
    let x = (findings_are_the_facts_in_order groups messages found).0 is in
    record {
      facts = λ i f here. fact_against groups messages f controlled (x.facts i f here);
      all = λ f against. x.all f (against_fact groups messages f controlled against);
      ordered = x.ordered;
    }

pub findings_read : (groups : List Aspects) (messages : List Message) (found : List Finding) → AreControlled groups
    → AreFindings groups messages found → found ≡ findings groups messages
findings_read groups messages found controlled y =
    (findings_are_the_facts_in_order groups messages found).1 (record {
      facts = λ i f here. against_fact groups messages f controlled (y.facts i f here);
      all = λ f states. y.all f (fact_against groups messages f controlled states);
      ordered = y.ordered;
    })
