-- A splitter that is ready has a complete message.
use Rattle.std.proofs.Common.{◌∙◌, ap}
use Rattle.etcs_radio.specs.Splitter.{splitter_state}
use Rattle.etcs_radio.proofs.StateLemmas.{ready-whole}
use Rattle.etcs_radio.proofs.splitter.Splitter.message.Goals as goal

pub returns-clause-whole : goal.returns-clause-whole
returns-clause-whole c =
    ready-whole c.as_slice.result.now
    (ap splitter_state (c.as_slice.ensures.value ∙ c.self.view_is) ∙ c.requires)
