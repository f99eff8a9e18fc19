use Rattle.etcs_document.specs.Document.{◌then◌, document_list, read_indexed}
use Rattle.etcs_document.proofs.TakenLemmas.{AreReadSoFar}
use Rattle.etcs_document.proofs.document_values.read_list.Given as goal

-- the values so far were read, and passed to the sink
abbrev pub invariant-items : goal.invariant-items
invariant-items g l =
    let whole = document_list l.name (g.N.JsonValue.value l.document) then read_indexed g.T.FromValue.reading 0 in
    AreReadSoFar g.K.Sink.takes g.T.FromValue.reading whole l.initial.sink l.place (g.N.JsonValue.rest l.items) l.sink
