use Rattle.std.proofs.Common.{◌≡◌, Ok, arith, map}
use Rattle.std.proofs.lemmas.Grind.{common_steps}
use Rattle.etcs_document.specs.Document.{listed_aspects}
use Rattle.etcs_document.proofs.SoundLemmas.{list_controlled}
use Rattle.etcs_document.proofs.document_groups.read_aspects.Goals as goal

-- the aspects that were read are a controlled group
pub unwrap-requires : goal.unwrap-requires
unwrap-requires g c =
    let values = map g.N.JsonValue.value c.args.values.now in
    let aspects = c.aspects.aspects.items in
    let read : listed_aspects c.args.group values ≡ Ok aspects = grind (arith, common_steps) in
    c.new.ensures.made.1 (list_controlled c.args.group values aspects read)
