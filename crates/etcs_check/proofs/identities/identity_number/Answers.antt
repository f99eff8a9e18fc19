use Rattle.std.proofs.Common.{◌≡◌, Some, ap, sym, ◌∙◌, rules}
use Rattle.etcs_check.specs.Soundness.{aspect_identity, group_identity}
use Rattle.etcs_check.proofs.IdentityLemmas.{identity-at}
use Rattle.etcs_check.proofs.NoteLemmas.{index_at}
use Rattle.etcs_check.proofs.identities.identity_number.Goals as goal

-- A group's identity is the identity of balise 0 of its first aspect.
pub returns-clause-numbered : goal.returns-clause-numbered
returns-clause-numbered c =
    let first = c.first_aspect.result.now in
    let balise = c.index-first_aspect-0.result in
    let is : group_identity c.args.aspects.now ≡ Some balise.header.identity =
    ap aspect_identity (sym c.first_aspect.ensures.value) ∙ identity-at first balise (index_at first 0 _ balise c.first_aspect.ensures.some c.index-first_aspect-0.is) in
    (balise.header.identity, is, search rules, search rules)
