use Rattle.std.proofs.Common.{◌≡◌, drop, map}
use Rattle.etcs_document.specs.Document.{aspect_telegrams, balise_telegram, read_indexed}
use Rattle.etcs_document.proofs.DocumentLemmas.{with_front}
use Rattle.etcs_document.proofs.document_aspects.read_counted.Given as goal

-- what was read, and then what is read from the remaining values
abbrev pub invariant-balises : goal.invariant-balises
invariant-balises g l =
    with_front l.telegrams.items (read_indexed (balise_telegram l.group l.aspect) l.place (map g.N.JsonValue.value (drop l.place l.values)))
    ≡ aspect_telegrams l.group l.aspect l.fn.first (map g.N.JsonValue.value l.values)
