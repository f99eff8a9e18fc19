use Rattle.std.proofs.Common.{◌==◌}
use Rattle.etcs_schema.specs.Reading.{allowed_number}
use Rattle.etcs_schema.proofs.Objects.{gives_unit, member_missing, member_read, memory_checked, memory_missing, memory_under}
use Rattle.etcs_schema.proofs.reading.read_fixed.Goals as goal

pub returns-in_err-found-clause-gives : goal.returns-in_err-found-clause-gives
returns-in_err-found-clause-gives g c =
    gives_unit (λ _. c.args.number) _ _ (member_missing (λ _. c.args.number) _ _ (allowed_number (λ n. n == c.args.number)) _ _ c.from_residual.ensures.1 c.in_err-found.ensures.gives)

pub returns-in_err-found-clause-memory : goal.returns-in_err-found-clause-memory
returns-in_err-found-clause-memory g c = memory_checked _ _ (memory_missing _ _ (allowed_number (λ n. n == c.args.number)) _ _ c.from_residual.ensures.1 c.in_err-found.ensures.memory)

pub returns-clause-gives : goal.returns-clause-gives
returns-clause-gives g c =
    gives_unit (λ _. c.args.number) _ _ (member_read (λ _. c.args.number) _ _ (allowed_number (λ n. n == c.args.number)) _ _ _ c.in_ok-found.ensures.gives c.check_number.ensures.gives c.under.ensures)

pub returns-clause-memory : goal.returns-clause-memory
returns-clause-memory g c =
    memory_checked _ _ (memory_under (λ _. c.args.number) _ _ (allowed_number (λ n. n == c.args.number)) _ _ _ c.in_ok-found.ensures.gives c.check_number.ensures.gives c.check_number.ensures.memory c.under.ensures)
