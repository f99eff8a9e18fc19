use Rattle.std.proofs.Common.{arith}
use Rattle.std.proofs.lemmas.Grind.{common_steps}
use Rattle.std.proofs.lemmas.Slice.Eq.{bytes_eq-Decides}
use Rattle.etcs_document.proofs.TokenLemmas.{if_some}
use Rattle.etcs_document.proofs.TokenReaderLemmas.{name_passed}
use Rattle.etcs_document.proofs.token_reader.pass_name.Goals as goal

-- the quote, the key, the quote after it and the colon
pub returns-in-34 : goal.returns-in-34
returns-in-34 c = if_some _ _ c.pass_byte-in-34.result c.pass_byte-in-34.ensures (λ rest ends.
    let found = c.in_ok-strip_prefix.ensures.cases in
    name_passed c.args.rest.now c.in_ok-begun.begun.now c.args.name.now c.as_bytes.result.now c.in_ok-strip_prefix.field-0.now _ rest.now c.requires.plain c.in_ok-begun.ensures c.as_bytes.ensures.value ((bytes_eq-Decides _ _).0 found.0) found.1 ends (grind (arith, common_steps)))
