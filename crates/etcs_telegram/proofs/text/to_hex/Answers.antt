use Rattle.std.proofs.Common.{refl}
use Rattle.std.proofs.lemmas.Result.{err_from_is_err_and}
use Rattle.etcs_telegram.proofs.TelegramLemmas.{only_memory}
use Rattle.etcs_telegram.proofs.TextLemmas.{written_text}
use Rattle.etcs_telegram.proofs.text.to_hex.Goals as goal

-- if the encoding was made, the only possible error is lack of memory
pub returns-in_err-bytes-clause-too_big : goal.returns-in_err-bytes-clause-too_big
returns-in_err-bytes-clause-too_big c =
    let failed = err_from_is_err_and c.from_residual-in_err-bytes.result c.from_residual-in_err-bytes.ensures.1 in
    only_memory c.from_residual-in_err-bytes.result c.args.telegram.now c.in_ok-bits.ensures.ok.fits (rw (failed.1, failed.2) refl)

-- the digits of the encoding's bytes
pub returns-clause-ok : goal.returns-clause-ok
returns-clause-ok c =
    let text = rw c.as_slice.ensures.value at c.digits_of.ensures.text in
    let in_range = rw c.as_slice.ensures.value at c.digits_of.ensures.in_range in
    written_text c.digits_of.result c.args.telegram.now c.in_ok-bits.bits c.in_ok-bytes.bytes.items c.in_ok-bits.ensures.ok c.in_ok-bytes.ensures.bits c.in_ok-bytes.ensures.few text in_range
