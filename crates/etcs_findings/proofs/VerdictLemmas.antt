-- The verdict of an answer is yes if and only if there is a line without a finding.
use Rattle.std.proofs.Common.{◌≡◌, ◌∙◌, ℕ, List, [], ◌∷◌, Option, Some, None, Result, Ok, Err, arith, get_or, refl, ap, sym}
use Rattle.std.specs.Prelude.{◌↔◌, IsOkAnd, codes}
use Rattle.json.specs.Find.{get, get_member, later_or}
use Rattle.json.specs.Json.{Json, member, no_members, string}
use Rattle.etcs_check.specs.declared.finding.Finding.{Finding}
use Rattle.etcs_radio.specs.declared.error.RadioTextError.{RadioTextError}
use Rattle.etcs_radio.specs.declared.error.RadioTextError.TheVariants as radio
use Rattle.etcs_telegram.specs.declared.error.TextError.{TextError}
use Rattle.etcs_telegram.specs.declared.error.TextError.TheVariants as texts
use Rattle.etcs_document.specs.DocumentFault.{DocumentFault, bad_aspects, bad_count, bad_form, bad_message, bad_telegram, no_json}
use Rattle.etcs_document.specs.Verdict.{Summary}
use Rattle.etcs_findings.specs.Findings.{summary_json}
use Rattle.etcs_findings.specs.Laws.{IsYesAnswer}
use Rattle.etcs_findings.specs.Members.{whole, with_option}
use Rattle.etcs_findings.specs.Refusals.{refusal_json, telegram_reason, with_fault, with_message_bits, with_telegram_bits}
use Rattle.etcs_findings.proofs.MemberLemmas.{get_past, option_past, text_from}

abbrev nothing : Option Json
nothing = None

-- the first byte of a text
abbrev first_byte : Option Json → ℕ
first_byte None = 0
first_byte (Some j) = get_or (text_from j) 0 0

yes_of_line : (g m : ℕ) (fs : List Finding) → get (codes "verdict") (summary_json ((g, m), fs)) ≡ Some (string (codes "yes")) ↔ (fs ≡ [])
yes_of_line g m [] = (λ _. refl, λ _. refl)
yes_of_line g m (f ∷ fs) = (λ is. let no : 110 ≡ 121 = ap first_byte is in absurd (omega (arith, no)), λ is. absurd cc)

telegram_bits_past : (why : TextError) → get_member (codes "verdict") (with_telegram_bits why no_members) ≡ nothing
telegram_bits_past texts.Memory = refl
telegram_bits_past texts.NotHex = refl
telegram_bits_past texts.WrongSize = refl
telegram_bits_past texts.PadBits = refl
telegram_bits_past (texts.Fault f) = refl

message_bits_past : (why : RadioTextError) → get_member (codes "verdict") (with_message_bits why no_members) ≡ nothing
message_bits_past radio.Memory = refl
message_bits_past radio.NotHex = refl
message_bits_past (radio.Fault f) = refl

-- a fault has no other verdict
fault_past : (f : DocumentFault) → get_member (codes "verdict") (with_fault f no_members) ≡ nothing
unfolding with_fault
fault_past no_json = refl
fault_past (bad_form f) = refl
fault_past (bad_count g) = refl
fault_past (bad_aspects g) = refl
fault_past (bad_telegram g a b why) =
    let rest = member (codes "balise") (whole b) (with_telegram_bits why no_members) in
    let own = member (codes "group") (whole g) (with_option (codes "aspect") a rest) in
    get_past (codes "verdict") (codes "reason") (string (telegram_reason why)) own refl
    ∙ get_past (codes "verdict") (codes "group") (whole g) (with_option (codes "aspect") a rest) refl
    ∙ option_past (codes "verdict") (codes "aspect") a rest refl
    ∙ get_past (codes "verdict") (codes "balise") (whole b) (with_telegram_bits why no_members) refl ∙ telegram_bits_past why
fault_past (bad_message m why) = rw (message_bits_past why) refl

abbrev later_refused : Option Json → Option Json
later_refused o = later_or o (Some (string (codes "refused")))

no_of_fault : (f : DocumentFault) → get (codes "verdict") (refusal_json f) ≡ Some (string (codes "yes")) → ⊥
no_of_fault f is =
    let same : later_refused nothing ≡ Some (string (codes "yes")) = ap later_refused (sym (fault_past f)) ∙ is in
    let no : 114 ≡ 121 = ap first_byte same in omega (arith, no)

pub yes_of_answer : (a : Result Summary DocumentFault) → IsYesAnswer a ↔ IsOkAnd a (λ line. line.1 ≡ [])
yes_of_answer (Ok line) = yes_of_line line.0.0 line.0.1 line.1
yes_of_answer (Err f) = (λ is. absurd (no_of_fault f is), λ is. absurd is)
