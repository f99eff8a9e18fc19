use Rattle.std.proofs.Common.{arith, drop}
use Rattle.std.proofs.lemmas.Grind.{common_steps}
use Rattle.etcs_document.proofs.TokenReaderLemmas.{comma_follows, end_follows}
use Rattle.etcs_document.proofs.token_reader.pass_text.Goals as goal

-- another item
pub returns-in-44 : goal.returns-in-44
returns-in-44 c = comma_follows c.args.rest.now _ _ c.pass_blanks-behind.ensures (grind (arith, common_steps))

-- the end of the list
pub returns-in-93 : goal.returns-in-93
returns-in-93 c = let behind = c.pass_blanks-behind.result.now in end_follows c.args.rest.now behind (drop 1 behind) c.pass_blanks-behind.ensures (grind (arith, common_steps))
