use Rattle.std.proofs.Common.{◌≡◌, ◌∙◌, ◌*◌, ◌-◌, ◌==◌, ap, length, take, drop, refl, [], arith}
use Rattle.std.proofs.lemmas.List.{drop_all, length-drop, take_all}
use Rattle.etcs_bits.specs.bits.Number.{bits_of_bytes, num_of_bits}
use Rattle.etcs_bits.proofs.NumberLemmas.{length-bits_of_bytes}
use Rattle.etcs_json.proofs.packets.body_text.is_padded.Goals as goal

-- no bit is left
pub returns-then-pads-eq0 : goal.returns-then-pads-eq0
unfolding num_of_bits
returns-then-pads-eq0 c =
    let bits = bits_of_bytes c.args.bytes.now in
    let none : drop c.args.count bits ≡ [] = drop_all c.args.count bits (rw (length-bits_of_bytes c.args.bytes.now) (omega (arith, c.if-pads-eq0.true))) in
    rw (none, c.if-pads-eq0.true) refl

-- the bits that are left make the number
pub returns-else-pads-eq0 : goal.returns-else-pads-eq0
returns-else-pads-eq0 c =
    let bits = bits_of_bytes c.args.bytes.now in
    let count = length-bits_of_bytes c.args.bytes.now in
    let whole : take (8 * length c.args.bytes.now) bits ≡ bits = take_all (8 * length c.args.bytes.now) bits (omega (arith, count)) in
    let view = c.of_bytes.ensures.bits ∙ whole in
    let rest : take (8 * length c.args.bytes.now - c.args.count) (drop c.args.count bits) ≡ drop c.args.count bits =
    take_all (8 * length c.args.bytes.now - c.args.count) (drop c.args.count bits) (rw (length-drop, count) (omega arith)) in
    ap (λ n. n == 0) (c.num.ensures.value ∙ ap num_of_bits (ap (λ bs. take (8 * length c.args.bytes.now - c.args.count) (drop c.args.count bs)) view ∙ rest))
