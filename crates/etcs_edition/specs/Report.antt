-- The report of a check: what the command writes for the document of a line. The words are this project's;
-- `report_words` of etcs_document/specs/ReportText.antt gives them for the findings.
use Rattle.std.specs.Prelude.{◌≡◌, ℕ, List, length}
use Rattle.etcs_group.specs.Group.{Aspects}
use Rattle.etcs_check.specs.declared.finding.Finding.{Finding}
use Rattle.etcs_document.specs.ReportText.{report_words}
use Rattle.etcs_radio.specs.declared.message.Message.{Message}
use Rattle.etcs_edition.specs.Document.{IsLineText}
use Rattle.etcs_edition.specs.Findings.{AreFindings}

-- The bytes are the document of a line, and the text is the report on its findings.
pub record IsReport (bytes text : List ℕ) : Type 0 where
  pub groups : List Aspects
  pub messages : List Message
  pub found : List Finding
  pub line : IsLineText bytes groups messages
  pub findings : AreFindings groups messages found
  pub words : text ≡ report_words (length groups) (length messages) found
