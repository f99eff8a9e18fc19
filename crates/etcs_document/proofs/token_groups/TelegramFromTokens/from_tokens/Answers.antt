use Rattle.etcs_telegram.proofs.LawLemmas.{text_meaning}
use Rattle.etcs_document.proofs.DocumentTokenLemmas.{telegram_taken}
use Rattle.etcs_document.proofs.PlainLemmas.{telegram_plain}
use Rattle.etcs_document.proofs.TokenLemmas.{ok_some}
use Rattle.etcs_document.proofs.token_groups.TelegramFromTokens.from_tokens.Goals as goal

-- the text of a telegram has only digits
pub returns : goal.returns
returns c = ok_some _ _ c.from_hex.result c.ok.result c.from_hex.ensures.ok (λ made. made) c.ok.ensures.value (λ t read _.
    let is = text_meaning t c.in_ok-text.text.now read in
    telegram_taken _ c.in_ok-text.text.now _ _ _ (c.in_ok-text.ensures (telegram_plain _ _ is)) is)
