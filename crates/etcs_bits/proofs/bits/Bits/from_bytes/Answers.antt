use Rattle.std.proofs.Common.{◌≤◌, ◌*◌, ◌∙◌, ap, arith, length, take}
use Rattle.etcs_bits.specs.bits.Number.{bits_of_bytes}
use Rattle.etcs_bits.proofs.ViewLemmas.{length-view, in_few_bytes}
use Rattle.etcs_bits.proofs.bits.Bits.from_bytes.Goals as goal

pub returns-clause-bits : goal.returns-clause-bits
returns-clause-bits c =
    let enough : c.args.len ≤ 8 * c.div_ceil.result = omega (arith, c.div_ceil.ensures) in
    c.cut.ensures.bits
    ∙ ap (λ bytes. take c.args.len (bits_of_bytes bytes)) c.in_ok-kept.ensures.bytes
    ∙ in_few_bytes c.args.bytes.now c.args.len c.div_ceil.result enough

pub returns-clause-len : goal.returns-clause-len
returns-clause-len c =
    ap length (returns-clause-bits c) ∙ length-view c.args.bytes.now c.args.len c.requires
