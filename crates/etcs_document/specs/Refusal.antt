-- The texts of refusals. The words are this project's. Lack of memory is no reason to refuse an input, and
-- has no text.
use Rattle.std.specs.Prelude.{◌++◌, ℕ, List, [], codes, decimal}
use Rattle.std.specs.Option.{option_map_or}
use Rattle.etcs_bits.specs.layout.FaultWords.{fault_words}
use Rattle.etcs_telegram.specs.declared.error.TextError.{TextError}
use Rattle.etcs_telegram.specs.declared.error.TextError.TheVariants as texts
use Rattle.etcs_radio.specs.declared.error.RadioTextError.{RadioTextError}
use Rattle.etcs_radio.specs.declared.error.RadioTextError.TheVariants as radio
use Rattle.etcs_schema.specs.Fault.{Fault, Reason, Missing, Unknown, Kind, Range, error_fault}
use Rattle.etcs_schema.specs.Path.{path_words}
use Rattle.etcs_schema.specs.declared.error.FormError.{FormError}
use Rattle.etcs_document.specs.declared.line_error.LineError.{LineError}
use Rattle.etcs_document.specs.declared.line_error.LineError.TheVariants as documents
use Rattle.etcs_document.specs.declared.refusal.LineFault.{LineFault}
use Rattle.etcs_document.specs.declared.refusal.LineFault.TheVariants as lines
use Rattle.etcs_document.specs.declared.refusal.StreamFault.{StreamFault}
use Rattle.etcs_document.specs.declared.refusal.StreamFault.TheVariants as streams
use Rattle.etcs_document.specs.declared.refusal.Refusal.{Refusal}
use Rattle.etcs_document.specs.declared.refusal.Refusal.TheVariants as refusals

-- ---- why a text is not a telegram

abbrev pub text_words : TextError → List ℕ
text_words texts.Memory = []
text_words texts.NotHex = codes "not hexadecimal"
text_words texts.WrongSize = codes "wrong size"
text_words texts.PadBits = codes "pad bits set"
text_words (texts.Fault fault) = fault_words fault

-- why a text is not a radio message
abbrev pub radio_words : RadioTextError → List ℕ
radio_words radio.Memory = []
radio_words radio.NotHex = codes "not hexadecimal"
radio_words (radio.Fault fault) = fault_words fault

-- ---- why a value is not a form

-- what is wrong
abbrev pub reason_words : Reason → List ℕ
reason_words Missing = codes "missing key"
reason_words Unknown = codes "unknown key"
reason_words Kind = codes "kind"
reason_words Range = codes "range"

-- the fault, and its path
abbrev pub form_fault_words : Fault → List ℕ
form_fault_words f = codes "form " ++ (reason_words f.reason ++ (codes " at " ++ path_words f.path))

-- the words of the error's fault, if it has one
abbrev pub form_words : FormError → List ℕ
form_words e = option_map_or form_fault_words (error_fault e) []

-- ---- the lines

-- why a line is refused
unfoldable pub line_words : LineFault → List ℕ
line_words (lines.Text why) = text_words why
line_words lines.Json = codes "not JSON"
line_words (lines.Form why) = form_words why
line_words lines.TooBig = codes "too big"

-- why a message of a stream is refused
unfoldable pub stream_words : StreamFault → List ℕ
stream_words (streams.Fault fault) = fault_words fault
stream_words streams.BelowThree = codes "length below 3"
stream_words streams.CutOff = codes "cut off"

-- why bytes are not the document of a line; groups, aspects, balises and messages are named by their indexes
unfoldable pub document_words : LineError → List ℕ
document_words documents.Memory = []
document_words documents.NotJson = codes "not JSON"
document_words (documents.Form why) = form_words why
document_words (documents.Count g) = codes "group " ++ (decimal g ++ codes ": count")
document_words (documents.Telegram g b why) =
    codes "group " ++ (decimal g ++ (codes " balise " ++ (decimal b ++ (codes ": " ++ text_words why))))
document_words (documents.Message m why) = codes "message " ++ (decimal m ++ (codes ": " ++ radio_words why))
document_words (documents.Aspects g) = codes "group " ++ (decimal g ++ codes ": aspects")
document_words (documents.AspectTelegram g a b why) =
    codes "group " ++ (decimal g ++ (codes " aspect " ++ (decimal a ++ (codes " balise " ++ (decimal b
    ++ (codes ": " ++ text_words why))))))

-- the text of a refusal
unfoldable pub refusal_words : Refusal → List ℕ
refusal_words refusals.Usage =
    codes "refused: usage is balisecheck check, decode [--radio] or encode [--radio]\n"
refusal_words (refusals.Line n why) =
    codes "refused: line " ++ (decimal n ++ (codes ": " ++ (line_words why ++ codes "\n")))
refusal_words (refusals.Message n why) =
    codes "refused: message " ++ (decimal n ++ (codes ": " ++ (stream_words why ++ codes "\n")))
refusal_words (refusals.Document why) = codes "refused: " ++ (document_words why ++ codes "\n")
