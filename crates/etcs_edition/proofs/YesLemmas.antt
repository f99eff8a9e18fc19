-- A yes by the edition is one of the check.
use Rattle.std.proofs.Common.{◌≡◌, ℕ, List, Ok}
use Rattle.etcs_group.specs.Group.{Aspects}
use Rattle.etcs_document.specs.Verdict.{SaysYes as CheckSaysYes}
use Rattle.etcs_document.specs.Document.{line_of_text}
use Rattle.etcs_document.proofs.YesLemmas.{sound_says_yes}
use Rattle.etcs_radio.specs.declared.message.Message.{Message}
use Rattle.etcs_edition.specs.Yes.{SaysYes}
use Rattle.etcs_edition.proofs.DocumentLemmas.{text_is_line, line_is_text}

read_line : (bytes : List ℕ) (groups : List Aspects) (ms : List Message) → CheckSaysYes bytes groups ms
    → line_of_text bytes ≡ Ok (groups, ms)
unfolding line_of_text
read_line bytes groups ms x = rw x.json x.line

pub edition_says_yes : (bytes : List ℕ) (groups : List Aspects) (ms : List Message) → CheckSaysYes bytes groups ms → SaysYes bytes groups ms
edition_says_yes bytes groups ms x = record {
  text = text_is_line bytes groups ms (read_line bytes groups ms x);
  sound = x.sound;
}

pub check_says_yes : (bytes : List ℕ) (groups : List Aspects) (ms : List Message) → SaysYes bytes groups ms → CheckSaysYes bytes groups ms
check_says_yes bytes groups ms x = sound_says_yes bytes groups ms (line_is_text bytes groups ms x.text) x.sound
