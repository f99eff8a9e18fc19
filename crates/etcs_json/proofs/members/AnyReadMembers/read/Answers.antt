use Rattle.etcs_schema.proofs.Objects.{member_missing}
use Rattle.etcs_json.proofs.members.AnyReadMembers.read.Goals as goal

pub returns-in_err-found : goal.returns-in_err-found
returns-in_err-found g c = member_missing (λ x. x) _ _ _ _ _ c.from_residual.ensures.1 c.in_err-found.ensures.gives
