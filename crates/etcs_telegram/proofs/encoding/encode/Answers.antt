use Rattle.std.proofs.Common.{◌≤◌, ap, arith, refl}
use Rattle.std.proofs.lemmas.Result.{err_from_is_err_and}
use Rattle.etcs_telegram.specs.Record.{Telegram}
use Rattle.etcs_telegram.specs.Sizes.{user_bits}
use Rattle.etcs_telegram.specs.Telegram.{used_bits}
use Rattle.etcs_telegram.proofs.TelegramLemmas.{few_bits, only_memory}
use Rattle.etcs_telegram.proofs.encoding.encode.Goals as goal

-- if the telegram fits, the only possible error is lack of memory
pub returns-in_err-write-clause-too_big : goal.returns-in_err-write-clause-too_big
returns-in_err-write-clause-too_big c =
    let failed = err_from_is_err_and c.from_residual.result c.from_residual.ensures.1 in
    let fits : used_bits c.args.telegram.now ≤ user_bits c.args.telegram.now.size = omega (arith, c.if-used_width-user_bits.false, c.used_width.ensures, c.user_bits.ensures, ap (λ (t : Telegram). user_bits t.size) c.telegram.view_is, few_bits c.args.telegram.now.size) in
    only_memory c.from_residual.result c.args.telegram.now fits (rw (failed.1, failed.2) refl)
