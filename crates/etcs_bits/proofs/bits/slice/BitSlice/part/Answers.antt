use Rattle.std.proofs.Common.{◌≡◌, ◌+◌, ◌-◌, ◌∙◌, sym, ap, arith, length, take, drop}
use Rattle.etcs_bits.specs.bits.Number.{bits_of_bytes}
use Rattle.etcs_bits.proofs.ViewLemmas.{length-part, part_of_part}
use Rattle.etcs_bits.proofs.bits.slice.BitSlice.part.Goals as goal

pub returns-clause-bits : goal.returns-clause-bits
returns-clause-bits c =
    let s = c.self.inside in
    let l = sym (length-part s.bytes.now s.from s.to c.self.invariant.1) ∙ ap length c.self.view_is in
    let e : s.from + c.args.to - (s.from + c.args.from) ≡ c.args.to - c.args.from = omega arith in
    ap (λ n. take n (drop (s.from + c.args.from) (bits_of_bytes s.bytes.now))) e
    ∙ sym (part_of_part (bits_of_bytes s.bytes.now) s.from (s.to - s.from) c.args.from (c.args.to - c.args.from) (omega arith))
    ∙ ap (λ xs. take (c.args.to - c.args.from) (drop c.args.from xs)) c.self.view_is

pub returns-clause-len : goal.returns-clause-len
returns-clause-len c =
    let s = c.self.inside in
    let l = sym (length-part s.bytes.now s.from s.to c.self.invariant.1) ∙ ap length c.self.view_is in
    let n = length-part s.bytes.now (s.from + c.args.from) (s.from + c.args.to) (omega arith) in
    omega arith
