use Rattle.std.proofs.Common.{◌≡◌, Ok, arith, map}
use Rattle.std.proofs.lemmas.Grind.{common_steps}
use Rattle.etcs_document.specs.Document.{aspect_telegrams}
use Rattle.etcs_document.proofs.SoundLemmas.{few_balises}
use Rattle.etcs_document.proofs.document_aspects.read_counted.Goals as goal

-- the telegrams that were read are one to eight, so the group is made
pub unwrap-requires : goal.unwrap-requires
unwrap-requires g c =
    let values = map g.N.JsonValue.value c.args.values.now in
    let telegrams = c.balises.telegrams.items in
    let read : aspect_telegrams c.args.group c.args.aspect c.args.first values ≡ Ok telegrams = grind (arith, common_steps) in
    c.new.ensures.made.1 (few_balises c.args.group c.args.aspect c.args.first values telegrams read)
