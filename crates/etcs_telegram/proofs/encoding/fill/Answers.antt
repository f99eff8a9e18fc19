use Rattle.std.proofs.Common.{◌≡◌, ◌-◌, ◌*◌, ◌%◌, ◌^◌, ◌∙◌, ◌++◌, true, replicate, ap, arith}
use Rattle.std.proofs.lemmas.Nat.{one_shl}
use Rattle.etcs_bits.specs.bits.Number.{num}
use Rattle.etcs_telegram.proofs.FillLemmas.{ones_are, more_ones, grown}
use Rattle.etcs_telegram.proofs.encoding.fill.Goals as goal

-- the appended bits are ones
more : (c : goal.In_ok-push_num) → c.push_num.new.self ≡ c.filling.bits ++ replicate c.min-width.result true
more c =
    let w = c.min-width.result in
    let one : 1 * 2 ^ w % 2 ^ 64 ≡ 2 ^ w = one_shl w 64 (omega (arith, c.min-width.ensures)) in
    c.in_ok-push_num.ensures.ok ∙ ap (λ n. c.filling.bits ++ num w (n - 1)) one ∙ ap (λ xs. c.filling.bits ++ xs) (ones_are w)

-- at least one bit is appended
pub filling-smaller : goal.filling-smaller
filling-smaller c = omega (arith, grown c.filling.bits c.push_num.new.self c.min-width.result (more c), c.min-width.ensures, c.filling-test.true, c.len.ensures, c.len-in-filling.ensures)

pub filling-preserved : goal.filling-preserved
filling-preserved c =
    let l = grown c.filling.bits c.push_num.new.self c.min-width.result (more c) in
    record {
      longer = omega (arith, l, c.filling.invariant.longer);
      within = omega (arith, l, c.min-width.ensures, c.len-in-filling.ensures, c.filling.invariant.within);
      ones = more_ones c.args.bits.now c.filling.bits c.push_num.new.self c.min-width.result c.filling.invariant.longer c.filling.invariant.ones (more c);
    }
