use Rattle.std.proofs.Common.{◌+◌, ◌/◌, ◌∙◌, ap, ◌++◌, take, refl}
use Rattle.etcs_bits.specs.bits.Number.{bits_of_bytes}
use Rattle.etcs_bits.proofs.StoreLemmas.{appended_whole}
use Rattle.etcs_bits.proofs.bits.bytes.append_whole.Goals as goal

pub returns-clause-ok : goal.returns-clause-ok
returns-clause-ok c =
    let m = (c.args.width + 7) / 8 in
    ap bits_of_bytes (c.in_ok-append_few.ensures.ok ∙ ap (λ block. c.args.bytes.now.items ++ take m block) c.to_be_bytes-block.ensures)
    ∙ appended_whole c.args.bytes.now.items c.args.width c.args.n m c.requires.low c.requires.high c.requires.fits refl
