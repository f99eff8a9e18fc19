use Rattle.std.proofs.Common.{◌≡◌, ◌+◌, drop, map}
use Rattle.std.specs.Prelude.{Some}
use Rattle.etcs_document.specs.Document.{group_aspect, listed_aspects, read_indexed}
use Rattle.etcs_document.proofs.DocumentLemmas.{with_front}
use Rattle.etcs_document.proofs.document_groups.read_aspects.Given as goal

-- what was read, and then what is read from the remaining values
abbrev pub invariant-aspects : goal.invariant-aspects
invariant-aspects g l =
    with_front l.aspects.items (read_indexed (λ a. group_aspect l.group (Some a) (Some l.count)) (l.index + 1) (map g.N.JsonValue.value (drop l.index l.others)))
    ≡ listed_aspects l.group (map g.N.JsonValue.value l.values)
