-- What the findings of a line mean, in whichever way they were found.
use Rattle.std.proofs.Common.{◌≡◌, ℕ, List, [], ◌++◌, ap, ap₂, sym, subst, ◌∙◌}
use Rattle.std.specs.Prelude.{◌↔◌}
use Rattle.etcs_radio.specs.declared.message.Message.{Message}
use Rattle.etcs_telegram.specs.Record.{Telegram}
use Rattle.etcs_group.specs.Places.{At}
use Rattle.etcs_check.specs.Violation.{Violates}
use Rattle.etcs_check.specs.Laws.{AreControlled, NamesTheUnsound}
use Rattle.etcs_check.specs.Line.{findings, group_list, message_list}
use Rattle.etcs_check.specs.Order.{IsFindings}
use Rattle.etcs_check.specs.Soundness.{IsSoundLine}
use Rattle.etcs_check.specs.declared.finding.Finding.{Finding}
use Rattle.etcs_check.proofs.LineLemmas.{no_finding_means_sound_line}
use Rattle.etcs_check.proofs.CellLemmas.{findings_are_the_facts_in_order}
use Rattle.etcs_check.proofs.ViolationLemmas.{findings_are_facts}
use Rattle.etcs_check.proofs.NamedLemmas.{unnamed_means_sound}

-- the findings about the groups were appended to none, and then the findings about the messages
pub findings_noted : (none some all : List Finding) (gs groups : List (List (List Telegram))) (ms messages : List Message) → none ≡ [] → some ≡ none ++ group_list gs → all ≡ some ++ message_list ms
    → gs ≡ groups → ms ≡ messages → all ≡ findings groups messages
findings_noted none some all gs groups ms messages empty first then are others =
    then ∙ ap (λ l. l ++ message_list ms) (first ∙ ap (λ l. l ++ group_list gs) empty) ∙ ap₂ findings are others

module _ (groups : List (List (List Telegram))) (messages : List Message) (found : List Finding) (is : found ≡ findings groups messages) where
  -- each fact has its finding, in order
  pub found_list : IsFindings groups messages found
  found_list = (findings_are_the_facts_in_order groups messages found).0 is

  module _ (controlled : AreControlled groups) where
    -- there is no finding if and only if the line is sound
    pub found_sound : (found ≡ []) ↔ IsSoundLine groups messages
    found_sound = let law = no_finding_means_sound_line groups messages controlled in (λ none. law.0 (sym is ∙ none), λ sound. is ∙ law.1 sound)

    -- each finding is a violation
    pub found_violates : (i : ℕ) (f : Finding) → At found i f → Violates groups messages f
    found_violates i f at = (findings_are_facts groups messages i f (subst (λ l. At l i f) is at)).1 controlled

    -- each names its group or its message
    pub found_unnamed : NamesTheUnsound groups messages found
    found_unnamed = subst (NamesTheUnsound groups messages) (sym is) (unnamed_means_sound groups messages controlled)
