use Rattle.etcs_schema.proofs.Objects.{member_missing}
use Rattle.etcs_json.proofs.packets.body_form.read_body.Goals as goal

pub returns-in_err-found-clause-gives : goal.returns-in_err-found-clause-gives
returns-in_err-found-clause-gives g c = member_missing (λ b. b) _ _ _ _ _ c.from_residual.ensures.1 c.in_err-found.ensures.gives
