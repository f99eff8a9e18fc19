use Rattle.std.proofs.Common.{◌+◌, ◌-◌, ◌++◌, ◌∙◌, ap, arith}
use Rattle.std.proofs.lemmas.List.{take_all}
use Rattle.etcs_bits.proofs.StepLemmas.{more_pushed}
use Rattle.etcs_bits.proofs.bits.Bits.push_slice.Goals as goal

pub loop-at-preserved : goal.loop-at-preserved
loop-at-preserved c = (
  omega arith,
  more_pushed c.args.self.now c.loop-at.self c.push_num.new.self c.args.bits c.loop-at.at 32 c.num.result (omega arith)
      c.loop-at.invariant.1 c.num.ensures.value c.in_ok-push_num.ensures.ok,
)

pub returns-in_ok-push_num-2-clause-puts : goal.returns-in_ok-push_num-2-clause-puts
returns-in_ok-push_num-2-clause-puts c =
    let k = c.len-len.result - c.loop-at.at in
    more_pushed c.args.self.now c.loop-at.self c.push_num-then-left-gt0.new.self c.args.bits c.loop-at.at k c.num-then-left-gt0.result (omega arith)
    c.loop-at.invariant.1 c.num-then-left-gt0.ensures.value c.in_ok-push_num-2.ensures.ok
    ∙ ap (λ bits. c.args.self.now ++ bits) (take_all (c.loop-at.at + k) c.args.bits (omega arith))
