-- No bytes are fewer than three.
use Rattle.std.proofs.Common.{rules}
use Rattle.etcs_radio.proofs.StateLemmas.{state-none}
use Rattle.etcs_radio.proofs.splitter.Splitter.new.Goals as goal

pub returns-clause-state : goal.returns-clause-state
returns-clause-state c = search (rules, state-none)
