use Rattle.std.proofs.Common.{rules, arith, ◌∙◌}
use Rattle.etcs_document.proofs.TokenReaderLemmas.{blank_at}
use Rattle.etcs_document.proofs.token_reader.pass_blanks.Goals as goal

-- one more blank
pub blanks-preserved : goal.blanks-preserved
blanks-preserved c = (
  omega arith,
  blank_at c.args.rest.now c.blanks.at c.blanks-test.true (search rules) ∙ c.blanks.invariant.1,
)
