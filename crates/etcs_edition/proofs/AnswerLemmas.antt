-- What is refused, and what has a yes, by the edition.
use Rattle.std.proofs.Common.{◌≡◌, ◌↔◌, ℕ, List, [], Result, Ok, Err, refl, sym, subst}
use Rattle.std.specs.Prelude.{IsErr}
use Rattle.std.proofs.lemmas.Bool.{false≢true}
use Rattle.etcs_group.specs.Group.{Aspects}
use Rattle.etcs_check.proofs.LineLemmas.{no_finding_means_sound_line}
use Rattle.etcs_check.proofs.NamedLemmas.{unnamed_means_sound}
use Rattle.etcs_check.specs.Laws.{NamesTheUnsound}
use Rattle.etcs_check.specs.declared.finding.Finding.{Finding}
use Rattle.etcs_document.proofs.SoundLemmas.{line_controlled}
use Rattle.etcs_document.specs.Document.{line_of_text}
use Rattle.etcs_radio.proofs.TextLemmas as messages
use Rattle.etcs_radio.specs.TextMeaning.{message_of_text}
use Rattle.etcs_radio.specs.declared.message.Message.{Message}
use Rattle.etcs_telegram.proofs.LawLemmas as telegrams
use Rattle.etcs_telegram.specs.Record.{Telegram}
use Rattle.etcs_telegram.specs.TextMeaning.{telegram_of_text}
use Rattle.etcs_edition.specs.Telegram.{IsTelegramText}
use Rattle.etcs_edition.specs.Message.{IsMessageText}
use Rattle.etcs_edition.specs.Document.{IsLineText}
use Rattle.etcs_edition.specs.Yes.{SaysYes}
use Rattle.etcs_edition.specs.Findings.{AreFindings}
use Rattle.etcs_edition.proofs.DocumentLemmas.{text_is_line, line_is_text}
use Rattle.etcs_edition.proofs.FindingLemmas.{findings_read, read_findings}
use Rattle.etcs_edition.proofs.MessageLemmas.{message_text_read, read_message_text}
use Rattle.etcs_edition.proofs.TextLemmas.{text_read, read_text}

-- a result is an error if and only if it is no value
none_or_err : {A E : Type 0} (Is : A → Type 0) (r : Result A E) → ((x : A) → Is x → r ≡ Ok x)
    → ((x : A) → r ≡ Ok x → Is x) → ((x : A) → Is x → ⊥) ↔ IsErr r
none_or_err Is (Ok x) to back = (λ none. absurd (none x (back x refl)), λ err x is. false≢true err)
none_or_err Is (Err e) to back = (λ none. refl, λ err x is. let same = to x is in absurd cc)

pub telegram_refused : (text : List ℕ) → ((t : Telegram) → IsTelegramText t text → ⊥) ↔ IsErr (telegram_of_text text)
telegram_refused text =
    none_or_err (λ t. IsTelegramText t text) (telegram_of_text text)
    (λ t is. telegrams.text_meaning t text (text_read t text is))
    (λ t is. read_text t text (telegrams.means_text t text is))

pub message_refused : (text : List ℕ) → ((m : Message) → IsMessageText m text → ⊥) ↔ IsErr (message_of_text text)
message_refused text =
    none_or_err (λ m. IsMessageText m text) (message_of_text text)
    (λ m is. messages.text_meaning m text (message_text_read m text is))
    (λ m is. read_message_text m text (messages.means_text m text is))

pub line_refused : (bytes : List ℕ)
    → ((line : List Aspects × List Message) → IsLineText bytes line.0 line.1 → ⊥) ↔ IsErr (line_of_text bytes)
line_refused bytes =
    none_or_err (λ line. IsLineText bytes line.0 line.1) (line_of_text bytes)
    (λ line is. line_is_text bytes line.0 line.1 is)
    (λ line is. text_is_line bytes line.0 line.1 is)

-- ---- a yes

pub yes_has_none : (bytes : List ℕ) (groups : List Aspects) (messages : List Message) → SaysYes bytes groups messages
    → IsLineText bytes groups messages × AreFindings groups messages []
yes_has_none bytes groups messages x =
    let controlled = line_controlled bytes groups messages (line_is_text bytes groups messages x.text) in
    let none = (no_finding_means_sound_line groups messages controlled).1 x.sound in
    (x.text, read_findings groups messages [] controlled (sym none))

pub none_is_yes : (bytes : List ℕ) (groups : List Aspects) (messages : List Message) → IsLineText bytes groups messages
    → AreFindings groups messages [] → SaysYes bytes groups messages
none_is_yes bytes groups messages text none =
    let controlled = line_controlled bytes groups messages (line_is_text bytes groups messages text) in
    let same = sym (findings_read groups messages [] controlled none) in
    record { text = text; sound = (no_finding_means_sound_line groups messages controlled).0 same }

-- ---- groups and messages by themselves

pub named_if_unsound : (bytes : List ℕ) (groups : List Aspects) (messages : List Message) (found : List Finding)
    → IsLineText bytes groups messages → AreFindings groups messages found → NamesTheUnsound groups messages found
named_if_unsound bytes groups messages found text are =
    let controlled = line_controlled bytes groups messages (line_is_text bytes groups messages text) in
    let same = findings_read groups messages found controlled are in
    subst (λ (fs : List Finding). NamesTheUnsound groups messages fs) (sym same) (unnamed_means_sound groups messages controlled)
