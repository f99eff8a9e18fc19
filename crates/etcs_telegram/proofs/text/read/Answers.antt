use Rattle.std.proofs.Common.{arith}
use Rattle.etcs_telegram.proofs.ReasonLemmas.{not_hex_means, other_size_means}
use Rattle.etcs_telegram.proofs.text.read.Goals as goal

-- no telegram has another number of digits
pub returns-in_default-clause-exact : goal.returns-in_default-clause-exact
returns-in_default-clause-exact c =
    other_size_means c.args.text.now (c.is_hexadecimal.ensures.0 c.if-is_hexadecimal.true) (λ e. omega (arith, e)) (λ e. omega (arith, e))

pub returns-in_default-2-clause-exact : goal.returns-in_default-2-clause-exact
returns-in_default-2-clause-exact c =
    not_hex_means c.args.text.now (λ h. let is = c.is_hexadecimal.ensures.1 h in cc (is, c.if-is_hexadecimal.false))
