use Rattle.std.proofs.Common.{length}
use Rattle.etcs_document.specs.Taken.{AreTaken}
use Rattle.etcs_document.proofs.DocumentTokenLemmas.{AreFirst}
use Rattle.etcs_document.proofs.token_groups.items.Given as goal

-- the items so far were read, and passed to the sink
abbrev pub invariant-items : goal.invariant-items
invariant-items g l =
    AreTaken (λ xs. AreFirst g.T.FromTokens.is_value l.inner l.initial.reader xs l.reader) g.K.Sink.takes l.initial.sink l.sink

-- each of them takes a token at least
abbrev pub decreases-items : goal.decreases-items
decreases-items g l = length l.reader
