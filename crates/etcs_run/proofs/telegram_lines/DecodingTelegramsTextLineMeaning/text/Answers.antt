use Rattle.std.proofs.Common.{◌≡◌, ◌∙◌, Ok, Err, ap, subst, sym}
use Rattle.etcs_telegram.specs.TextMeaning.{telegram_of_text}
use Rattle.etcs_telegram.specs.declared.error.TextError.TheVariants as texts
use Rattle.etcs_run.specs.TelegramLines.{IsEarly, telegram_decoded, telegram_json}
use Rattle.etcs_run.proofs.FormLemmas.{refused_early, text_refused}
use Rattle.etcs_run.proofs.telegram_lines.DecodingTelegramsTextLineMeaning.text.Goals as goal

-- the first reason to refuse the text
pub returns-clause-means : goal.returns-clause-means
unfolding telegram_decoded
returns-clause-means c =
    text_refused c.in-Err.why (telegram_of_text c.args.line.now) c.in_default.not-Memory c.in-Err.ensures.exact

-- a reason that is found before any packet is read is the reason that was found
pub returns-clause-early : goal.returns-clause-early
returns-clause-early c why early =
    let said = c.in-Err.ensures in
    let same =
    refused_early (Err c.in-Err.why) c.args.line.now why early said.not_hex said.wrong_size said.pad_bits
    said.header in cc

-- lack of memory is not a reason that is found before any packet is read
pub returns-in-Memory-clause-early : goal.returns-in-Memory-clause-early
returns-in-Memory-clause-early c why early =
    let said = c.in-Err.ensures in
    let same =
    refused_early (Err c.in-Err.why) c.args.line.now why early said.not_hex said.wrong_size said.pad_bits
    said.header in
    let memory : why ≡ texts.Memory = cc (same, c.in-Memory.is) in
    absurd (subst (λ w. IsEarly w c.args.line.now) memory early)

-- a telegram that was read becomes its line
pub returns-in-Ok-clause-means : goal.returns-in-Ok-clause-means
unfolding telegram_decoded
returns-in-Ok-clause-means c = ap telegram_json c.in-Ok.ensures.exact ∙ ap Ok (sym c.in_ok-json_line-in-Ok.ensures)
