use Rattle.std.proofs.Common.{rules, sym, ◌∙◌}
use Rattle.etcs_document.proofs.TokenReaderLemmas.{begun}
use Rattle.etcs_document.proofs.token_reader.TokenReader.pass_open.Goals as goal

pub returns-clause-object : goal.returns-clause-object
returns-clause-object c is =
    sym c.self.view_is ∙ (begun c.self.inside.place c.self.inside.rest.now _ (search rules)).0 (rw is at c.in_ok-rest.ensures)

pub returns-clause-list : goal.returns-clause-list
returns-clause-list c is =
    sym c.self.view_is ∙ (begun c.self.inside.place c.self.inside.rest.now _ (search rules)).1 (rw is at c.in_ok-rest.ensures)
