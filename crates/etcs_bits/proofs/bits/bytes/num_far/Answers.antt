use Rattle.std.proofs.Common.{arith}
use Rattle.etcs_bits.proofs.LoadLemmas.{num_by_word}
use Rattle.etcs_bits.proofs.bits.bytes.num_far.Goals as goal

pub returns : goal.returns
returns c = num_by_word c.args.bytes.now c.word_at.result c.args.from c.args.width c.word_at.ensures (omega arith) c.requires.high
