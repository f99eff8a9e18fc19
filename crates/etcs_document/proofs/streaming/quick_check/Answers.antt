use Rattle.std.proofs.Common.{◌≡◌, ◌<◌, refl, rules, ap, ◌∙◌, arith}
use Rattle.json.specs.Lex.{tokens}
use Rattle.etcs_document.proofs.StreamingLemmas.{document_taken, text_taken}
use Rattle.etcs_document.proofs.TokenLemmas.{ok_part, ok_some}
use Rattle.etcs_document.proofs.streaming.quick_check.Goals as goal

-- nothing follows the document, and all of it was passed to the checker
pub returns : goal.returns
returns c = ok_some _ _ c.found_by.result c.ok-2.result c.found_by.ensures.ok (λ made. made) c.ok-2.ensures.value (λ x told _.
    let utf8 = ok_part _ _ c.from_utf8.result _ c.from_utf8.ensures.cases c.in_ok-text.ensures.value in
    let begins = c.new-reader.ensures ∙ ap tokens (c.as_bytes.ensures.value ∙ utf8.0) in
    let inner : c.in_ok-inner.inner ≡ 126 = omega (arith, c.in_ok-inner.ensures.depth) in
    let deep : 0 < 127 = omega arith in
    text_taken c.args.bytes.now c.new-reader.result c.pass_close.new.self c.members.new.checker _ utf8.1 begins (c.is_at_end.ensures (search rules))
    (document_taken 127 _ c.pass_open.new.self c.members.new.reader _ _ deep (c.in_ok-inner.ensures.object refl) (rw inner at (c.in_ok-members.ensures c.new-checker.ensures)) (c.pass_close.ensures.object refl (search rules)))
    told)
