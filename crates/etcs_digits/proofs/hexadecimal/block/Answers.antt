use Rattle.etcs_digits.proofs.BlockLemmas.{block_of}
use Rattle.etcs_digits.proofs.hexadecimal.block.Goals as goal

pub returns-clause-bytes : goal.returns-clause-bytes
returns-clause-bytes c = block_of c.args.text.now c.worth-front.result c.worth-back.result c.requires c.worth-front.ensures c.worth-back.ensures
