use Rattle.std.proofs.Common.{rules, sym, ◌∙◌}
use Rattle.std.proofs.lemmas.Bool.{eqb-true}
use Rattle.etcs_document.proofs.TokenReaderLemmas.{none_left}
use Rattle.etcs_document.proofs.token_reader.TokenReader.is_at_end.Goals as goal

pub returns-then-may_close : goal.returns-then-may_close
returns-then-may_close c = λ yes. sym c.self.view_is ∙ none_left c.self.inside.place c.self.inside.rest.now c.pass_blanks.result.now (search rules) c.pass_blanks.ensures (eqb-true _ _ (sym c.is_empty.ensures ∙ yes))
