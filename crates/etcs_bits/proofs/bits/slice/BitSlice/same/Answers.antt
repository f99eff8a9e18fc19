use Rattle.std.proofs.Common.{◌∙◌, sym, arith}
use Rattle.etcs_bits.proofs.StepLemmas.{next_same, rest_decides}
use Rattle.etcs_bits.proofs.bits.slice.BitSlice.same.Goals as goal

pub loop-at-preserved : goal.loop-at-preserved
loop-at-preserved c = (
  omega arith,
  next_same c.args.self.now c.args.other c.loop-at.at 32 (omega arith) (omega arith) c.loop-at.invariant.1
      (sym c.num.ensures.value ∙ c.if-num.false ∙ c.num-in-loop-at.ensures.value),
)

pub returns-else-left-eq0 : goal.returns-else-left-eq0
returns-else-left-eq0 c =
    rest_decides c.args.self.now c.args.other c.loop-at.at c.len-len.result c.num-else-left-eq0.result c.num-else-left-eq0-2.result
    c.len-len.ensures (omega arith) c.loop-at.invariant.0 c.loop-at.invariant.1 c.num-else-left-eq0.ensures.value c.num-else-left-eq0-2.ensures.value
