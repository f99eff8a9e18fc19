use Rattle.std.proofs.Common.{◌-◌, ◌∙◌, sym, ap, arith, length, take, drop}
use Rattle.etcs_bits.specs.bits.Number.{num_of_bits, bits_of_bytes}
use Rattle.etcs_bits.proofs.StepLemmas.{next-lt}
use Rattle.etcs_bits.proofs.ViewLemmas.{length-part, part_of_part}
use Rattle.etcs_bits.proofs.bits.slice.BitSlice.num_far.Goals as goal

pub returns-clause-value : goal.returns-clause-value
returns-clause-value c =
    let s = c.self.inside in
    let l = sym (length-part s.bytes.now s.from s.to c.self.invariant.1) ∙ ap length c.self.view_is in
    c.num_far.ensures
    ∙ ap num_of_bits (sym (part_of_part (bits_of_bytes s.bytes.now) s.from (s.to - s.from) c.args.from c.args.width (omega arith)))
    ∙ ap (λ xs. num_of_bits (take c.args.width (drop c.args.from xs))) c.self.view_is

pub returns-clause-small : goal.returns-clause-small
returns-clause-small c = rw (returns-clause-value c) (next-lt c.args.self.now c.args.from c.args.width (omega (arith, c.requires.inside, c.requires.high)))
