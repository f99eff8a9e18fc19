use Rattle.std.proofs.Common.{ap, rules, sym, ◌∙◌}
use Rattle.json.specs.Json.{read_key}
use Rattle.etcs_document.proofs.TokenReaderLemmas.{key_passed}
use Rattle.etcs_document.proofs.token_reader.TokenReader.pass_key.Goals as goal

pub returns-clause-yes : goal.returns-clause-yes
returns-clause-yes c = λ yes. ap read_key (sym c.self.view_is) ∙ key_passed c.self.inside.place c.self.inside.rest.now c.args.name.now _ (search rules) c.in-Some.ensures
