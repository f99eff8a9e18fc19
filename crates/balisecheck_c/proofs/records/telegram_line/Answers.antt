use Rattle.std.proofs.Common.{◌≡◌, ◌∙◌, ℕ, List, Err, refl, ap, subst, sym}
use Rattle.etcs_telegram.specs.declared.error.TextError.{TextError}
use Rattle.etcs_telegram.specs.declared.error.TextError.TheVariants as texts
use Rattle.etcs_run.proofs.FormLemmas.{refused_early}
use Rattle.etcs_run.specs.TelegramLines.{IsEarly}
use Rattle.balisecheck_c.specs.Fault.{telegram_fault}
use Rattle.balisecheck_c.specs.Records.{Gives, telegram_json, telegram_reason}
use Rattle.balisecheck_c.specs.declared.records.Unread.TheVariants.{Memory, Refused}
use Rattle.balisecheck_c.proofs.records.telegram_line.Goals as goal

-- the line of the telegram that the text means
pub returns-in-Ok-clause-means : goal.returns-in-Ok-clause-means
returns-in-Ok-clause-means c =
    subst (Gives (λ line. line.items) c.line_of.result) (ap telegram_json (sym c.in-Ok.ensures.exact)) c.line_of.ensures

-- a reason that is found before any packet is read is a fault
fault_early : (why : TextError) (text : List ℕ) → IsEarly why text → telegram_reason why ≡ Refused (telegram_fault why)
fault_early texts.Memory text early = absurd early
fault_early texts.NotHex text early = refl
fault_early texts.WrongSize text early = refl
fault_early texts.PadBits text early = refl
fault_early (texts.Fault f) text early = refl

pub returns-in-Err-clause-early : goal.returns-in-Err-clause-early
returns-in-Err-clause-early c why early =
    let said = c.in-Err.ensures in
    let found =
    refused_early (Err c.in-Err.why) c.args.text.now why early said.not_hex said.wrong_size said.pad_bits
    said.header in
    let same : c.in-Err.why ≡ why = cc in
    ap Err (c.unread_telegram.ensures ∙ ap telegram_reason same ∙ fault_early why c.args.text.now early)

-- only a lack of memory is reported as one
is_memory : (why : TextError) → telegram_reason why ≡ Memory → why ≡ texts.Memory
is_memory texts.Memory lacks = refl
is_memory texts.NotHex lacks = cc
is_memory texts.WrongSize lacks = cc
is_memory texts.PadBits lacks = cc
is_memory (texts.Fault f) lacks = cc

pub returns-in-Err-clause-memory : goal.returns-in-Err-clause-memory
returns-in-Err-clause-memory c f is lacks =
    let reason : telegram_reason c.in-Err.why ≡ Memory = cc in
    c.in-Err.ensures.packets (ap Err (is_memory c.in-Err.why reason))
