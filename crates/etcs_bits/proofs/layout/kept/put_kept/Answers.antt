use Rattle.std.proofs.Common.{◌≡◌, ◌+◌, [], ◌++◌, length, ap, ◌∙◌, arith}
use Rattle.std.proofs.lemmas.List.{append-nil}
use Rattle.etcs_bits.specs.bits.Number.{num, num_of_bits}
use Rattle.etcs_bits.specs.lemmas.NumberLemmas.{num-num_of_bits}
use Rattle.etcs_bits.specs.layout.Results.{Puts}
use Rattle.etcs_bits.proofs.PutLemmas.{puts_bits}
use Rattle.etcs_bits.proofs.layout.kept.put_kept.Goals as goal

-- the bits are put behind their length, and are the bits of the number that they spell
pub returns : goal.returns
returns c =
    let bits = c.args.bits.now in
    let old = c.args.out.now in
    let after = c.push_slice.new.self in
    let spelled : num (length bits) (num_of_bits bits) ++ [] ≡ bits = append-nil (num (length bits) (num_of_bits bits)) ∙ num-num_of_bits bits in
    let slice : Puts bits c.push_slice.result c.push_num.new.self after = rw c.slice.ensures at c.push_slice.ensures.puts in
    let sum : c.from.result + 13 + c.len.result ≡ c.args.before + 13 + length bits = omega (arith, c.from.ensures, c.len.ensures) in
    let counted : c.push_num.new.self ≡ old ++ num 13 (c.args.before + 13 + length bits) = c.in_ok-push_num.ensures.ok ∙ ap (λ n. old ++ num 13 n) sum in
    puts_bits (num 13 (c.args.before + 13 + length bits)) (num (length bits) (num_of_bits bits) ++ []) c.push_slice.result old c.push_num.new.self after counted (rw spelled slice)
