use Rattle.etcs_radio.proofs.TextLemmas.{text_meaning}
use Rattle.etcs_document.proofs.DocumentTokenLemmas.{message_taken}
use Rattle.etcs_document.proofs.PlainLemmas.{message_plain}
use Rattle.etcs_document.proofs.TokenLemmas.{ok_some}
use Rattle.etcs_document.proofs.token_groups.MessageFromTokens.from_tokens.Goals as goal

-- the text of a message has only digits
pub returns : goal.returns
returns c = ok_some _ _ c.from_hex.result c.ok.result c.from_hex.ensures.ok (λ made. made) c.ok.ensures.value (λ m read _.
    let is = text_meaning m c.in_ok-text.text.now read in
    message_taken _ c.in_ok-text.text.now _ _ _ (c.in_ok-text.ensures (message_plain _ _ is)) is)
