use Rattle.std.proofs.Common.{ap, rules, sym, ◌∙◌}
use Rattle.json.specs.Json.{after_end_array, read_key}
use Rattle.etcs_document.proofs.TokenReaderLemmas.{ended}
use Rattle.etcs_document.proofs.token_reader.TokenReader.pass_close.Goals as goal

pub returns-clause-object : goal.returns-clause-object
returns-clause-object c is closes =
    ap read_key (sym c.self.view_is)
    ∙ (ended c.self.inside.place c.self.inside.rest.now _ _ (search rules) c.pass_comma-place.ensures).0 (rw is at c.in-Some.ensures)

pub returns-clause-list : goal.returns-clause-list
returns-clause-list c is closes =
    ap after_end_array (sym c.self.view_is)
    ∙ (ended c.self.inside.place c.self.inside.rest.now _ _ (search rules) c.pass_comma-place.ensures).1 (rw is at c.in-Some.ensures)
