use Rattle.std.proofs.Common.{rules, arith, take, sym, ◌∙◌}
use Rattle.etcs_document.proofs.TokenReaderLemmas.{text_passed, text_read}
use Rattle.etcs_document.proofs.token_reader.TokenReader.text.Goals as goal

-- a string, and what follows it
pub returns : goal.returns
returns c = λ are.
    let len = c.in_ok-len.len in
    let begun = c.in_ok-begun.begun.now in
    let read = text_read c.self.inside.rest.now begun len c.in_ok-begun.ensures (omega arith) c.if-begun-len-ne34.false are in
    sym c.self.view_is ∙ text_passed c.self.inside.place c.self.inside.rest.now (take len begun) _ _ (search rules) read c.in_ok-rest.ensures.1 c.in_ok-rest.ensures.0
