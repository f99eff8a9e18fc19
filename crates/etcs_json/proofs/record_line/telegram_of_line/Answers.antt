use Rattle.etcs_schema.specs.Codec.{object}
use Rattle.etcs_json.specs.Telegrams.{telegram}
use Rattle.etcs_json.proofs.LawLemmas.{line_again, telegram_again}
use Rattle.etcs_json.proofs.record_line.telegram_of_line.Goals as goal

-- each telegram is in range, so that its text is read again
pub returns-clause-read : goal.returns-clause-read
returns-clause-read c = let it = c.in_ok-record in line_again (object telegram) it.record c.args.line.now it.ensures (telegram_again it.record (c.prove_in_range.ensures.rows tt))
