-- What `check` writes by the edition is what the program writes.
use Rattle.std.proofs.Common.{◌≡◌, ℕ, List, ◌++◌, codes, length, Some, None, Result, Ok, Err, refl, ap, ap₂, sym, ◌∙◌, inl, inr}
use Rattle.etcs_group.specs.Group.{Aspects}
use Rattle.etcs_check.specs.Line.{findings}
use Rattle.etcs_check.specs.declared.finding.Finding.{Finding}
use Rattle.etcs_document.proofs.SoundLemmas.{line_controlled}
use Rattle.etcs_document.specs.Document.{◌then◌, line_of_text}
use Rattle.etcs_document.specs.DocumentFault.{DocumentFault, bad_aspects, bad_count, bad_form, bad_message, bad_telegram, no_json}
use Rattle.etcs_document.specs.Refusal.{refusal_words, document_words as working_words}
use Rattle.etcs_document.specs.ReportText.{report_words}
use Rattle.etcs_document.specs.Verdict.{judged, summary}
use Rattle.etcs_radio.specs.declared.message.Message.{Message}
use Rattle.etcs_run.specs.Checking.{check_output, check_status, checked, fault_refusal}
use Rattle.etcs_run.specs.Output.{Output}
use Rattle.etcs_run.specs.declared.status.Status.{Status}
use Rattle.etcs_run.specs.declared.status.Status.TheVariants.{Refused}
use Rattle.etcs_edition.specs.Output.{IsChecked}
use Rattle.etcs_edition.specs.Refusals.{document_words}
use Rattle.etcs_edition.proofs.DocumentLemmas.{text_is_line, line_is_text}
use Rattle.etcs_edition.proofs.FindingLemmas.{read_findings, findings_read}
use Rattle.etcs_edition.proofs.RefusalLemmas.{reason_is, is_reason}

-- ---- the refusal

words_same : (f : DocumentFault) → codes "refused: " ++ (document_words f ++ codes "\n") ≡ fault_refusal f
unfolding refusal_words working_words
words_same no_json = refl
words_same (bad_form f) = refl
words_same (bad_count g) = refl
words_same (bad_aspects g) = refl
words_same (bad_telegram g None b why) = refl
words_same (bad_telegram g (Some a) b why) = refl
words_same (bad_message m why) = refl

-- ---- the report

-- what is written for the line that was read, or for the fault
abbrev of_line : Result (List Aspects × List Message) DocumentFault → Output
of_line line = checked ((line then λ l. Ok (judged l)) then λ v. Ok (summary v))

line_output : (line : Result (List Aspects × List Message) DocumentFault) (groups : List Aspects) (messages : List Message)
    (found : List Finding) (output : Output) → line ≡ Ok (groups, messages) → found ≡ findings groups messages
    → output.0 ≡ report_words (length groups) (length messages) found → output.1 ≡ check_status found → output ≡ of_line line
line_output line groups messages found output is same words status =
    rw (is, ← same) (ap₂ (λ (text : List ℕ) (s : Status). (text, s)) words status)

pub checked_is : (input : List ℕ) (output : Output) → IsChecked input output → output ≡ check_output input
unfolding check_output
checked_is input output (inl (report, status)) =
    let line = line_is_text input report.groups report.messages report.line in
    let controlled = line_controlled input report.groups report.messages line in
    line_output (line_of_text input) report.groups report.messages report.found output line
    (findings_read report.groups report.messages report.found controlled report.findings) report.words status
checked_is input output (inr (f, reason, refused)) =
    refused ∙ ap (λ (text : List ℕ). (text, Refused)) (words_same f) ∙ ap of_line (sym (reason_is input f reason))

is_line : (input : List ℕ) (output : Output) (line : Result (List Aspects × List Message) DocumentFault)
    → line_of_text input ≡ line → output ≡ of_line line → IsChecked input output
is_line input output (Ok l) is written =
    inl (
      record {
        groups = l.0;
        messages = l.1;
        found = findings l.0 l.1;
        line = text_is_line input l.0 l.1 is;
        findings = read_findings l.0 l.1 (findings l.0 l.1) (line_controlled input l.0 l.1 is) refl;
        words = ap (λ (o : Output). o.0) written;
      },
      ap (λ (o : Output). o.1) written,
    )
is_line input output (Err f) is written =
    inr (f, is_reason input f is, written ∙ ap (λ (text : List ℕ). (text, Refused)) (sym (words_same f)))

pub is_checked : (input : List ℕ) (output : Output) → output ≡ check_output input → IsChecked input output
unfolding check_output
is_checked input output written = is_line input output (line_of_text input) refl written
