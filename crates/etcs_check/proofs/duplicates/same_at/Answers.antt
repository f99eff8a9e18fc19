use Rattle.std.proofs.Common.{◌≡◌, ◌↔◌, IsTrue, subst, ◌∙◌}
use Rattle.std.proofs.lemmas.Bool.Decides.{same_from_decides}
use Rattle.std.proofs.lemmas.Option.{get_or_from_slice_get}
use Rattle.etcs_profile.specs.declared.track.TrackPacket.{TrackPacket}
use Rattle.etcs_check.proofs.NumberLemmas.{Decides-same_packet}
use Rattle.etcs_check.proofs.duplicates.same_at.Goals as goal

-- The two packets compared are the ones at these places.
pub returns : goal.returns
returns c = λ p q at at'.
    let first = c.index-these-i.is ∙ get_or_from_slice_get c.args.these.now c.args.i p _ at in
    let second = c.index-those-j.is ∙ get_or_from_slice_get c.args.those.now c.args.j q _ at' in
    same_from_decides c.same.result _
    (subst (λ (x : TrackPacket). IsTrue c.same.result ↔ (p ≡ x)) second (subst (λ (x : TrackPacket). IsTrue c.same.result ↔ (x ≡ c.index-those-j.result)) first c.same.ensures))
    (Decides-same_packet p q)
