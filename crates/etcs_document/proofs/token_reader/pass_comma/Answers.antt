use Rattle.etcs_document.proofs.TokenReaderLemmas.{comma_passed}
use Rattle.etcs_document.proofs.token_reader.pass_comma.Goals as goal

-- the comma is skipped
pub returns-in-Some : goal.returns-in-Some
returns-in-Some c = comma_passed c.args.rest.now c.in-Some.after.now c.in-Some.ensures
