use Rattle.std.proofs.Common.{◌-◌, ◌/◌, ◌^◌, ◌∙◌, ap, arith, bit_and}
use Rattle.std.proofs.lemmas.Nat.{and_mask, one_shl}
use Rattle.etcs_bits.proofs.bits.cursor.field_in.Goals as goal

-- a mask of as many ones as the field has bits
pub returns : goal.returns
returns c =
    let n = c.args.n / 2 ^ c.args.after in
    ap (λ k. bit_and n (k - 1)) (one_shl c.args.width 64 (omega (arith, c.requires.width))) ∙ and_mask n c.args.width
