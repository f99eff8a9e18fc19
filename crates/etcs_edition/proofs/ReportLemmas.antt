-- The report by the edition is that of the findings that the check computes.
use Rattle.std.proofs.Common.{◌≡◌, ℕ, List, length, Result, Ok, Err, refl, ap, ◌∙◌}
use Rattle.std.specs.Prelude.{IsOkAnd}
use Rattle.etcs_group.specs.Group.{Aspects}
use Rattle.etcs_check.specs.Line.{findings}
use Rattle.etcs_check.specs.declared.finding.Finding.{Finding}
use Rattle.etcs_document.proofs.SoundLemmas.{line_controlled}
use Rattle.etcs_document.specs.Document.{◌then◌, line_of_text}
use Rattle.etcs_document.specs.DocumentFault.{DocumentFault}
use Rattle.etcs_document.specs.ReportText.{report_words}
use Rattle.etcs_document.specs.Verdict.{judged, summary, summary_of_text}
use Rattle.etcs_radio.specs.declared.message.Message.{Message}
use Rattle.etcs_edition.specs.Report.{IsReport}
use Rattle.etcs_edition.proofs.DocumentLemmas.{text_is_line, line_is_text}
use Rattle.etcs_edition.proofs.FindingLemmas.{read_findings, findings_read}

-- the text is the report on the line that was read
abbrev Reports : List ℕ → Result (List Aspects × List Message) DocumentFault → Type 0
Reports text line =
    IsOkAnd ((line then λ l. Ok (judged l)) then λ v. Ok (summary v)) (λ s. text ≡ report_words s.0.0 s.0.1 s.1)

of_line : (text : List ℕ) (line : Result (List Aspects × List Message) DocumentFault) (groups : List Aspects)
    (messages : List Message) (found : List Finding) → line ≡ Ok (groups, messages) → found ≡ findings groups messages
    → text ≡ report_words (length groups) (length messages) found → Reports text line
of_line text line groups messages found is same words =
    rw is (words ∙ ap (report_words (length groups) (length messages)) same)

to_line : (text : List ℕ) (line : Result (List Aspects × List Message) DocumentFault) → Reports text line
    → (l : List Aspects × List Message) × (line ≡ Ok l)
    × (text ≡ report_words (length l.0) (length l.1) (findings l.0 l.1))
to_line text (Ok l) x = (l, refl, x)
to_line text (Err f) x = absurd x

pub report_read : (bytes text : List ℕ) → IsReport bytes text
    → IsOkAnd (summary_of_text bytes) (λ s. text ≡ report_words s.0.0 s.0.1 s.1)
report_read bytes text x =
    let line = line_is_text bytes x.groups x.messages x.line in
    let controlled = line_controlled bytes x.groups x.messages line in
    of_line text (line_of_text bytes) x.groups x.messages x.found line
    (findings_read x.groups x.messages x.found controlled x.findings) x.words

pub read_report : (bytes text : List ℕ)
    → IsOkAnd (summary_of_text bytes) (λ s. text ≡ report_words s.0.0 s.0.1 s.1) → IsReport bytes text
read_report bytes text x =
    let y = to_line text (line_of_text bytes) x in
    let groups = y.0.0 in
    let messages = y.0.1 in
    record {
      groups = groups;
      messages = messages;
      found = findings groups messages;
      line = text_is_line bytes groups messages y.1;
      findings =
          read_findings groups messages (findings groups messages) (line_controlled bytes groups messages y.1) refl;
      words = y.2;
    }
