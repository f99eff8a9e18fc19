use Rattle.etcs_schema.proofs.Objects.{member_missing, memory_missing, memory_under}
use Rattle.etcs_json.proofs.reading.read_number.Goals as goal

pub returns-in_err-found-clause-gives : goal.returns-in_err-found-clause-gives
returns-in_err-found-clause-gives g c = member_missing (λ n. n) _ _ _ _ _ c.from_residual.ensures.1 c.in_err-found.ensures.gives

pub returns-in_err-found-clause-memory : goal.returns-in_err-found-clause-memory
returns-in_err-found-clause-memory g c = memory_missing _ _ _ _ _ c.from_residual.ensures.1 c.in_err-found.ensures.memory

pub returns-clause-memory : goal.returns-clause-memory
returns-clause-memory g c = memory_under (λ n. n) _ _ _ _ _ _ c.in_ok-found.ensures.gives c.read_allowed.ensures.gives c.read_allowed.ensures.memory c.under.ensures
