use Rattle.std.proofs.Common.{[], ap}
use Rattle.etcs_document.specs.Document.{◌then◌, in_form, read_indexed}
use Rattle.etcs_document.proofs.TakenLemmas.{all_so_far, none_so_far, one_so_far}
use Rattle.etcs_document.proofs.document_values.read_list.Goals as goal

pub items-init : goal.items-init
items-init g c = none_so_far g.K.Sink.takes g.T.FromValue.reading _ _ _ (ap (λ r. in_form [] r then read_indexed g.T.FromValue.reading 0) c.in_ok-items.ensures)

-- one more was read, and passed to the sink
pub items-preserved : goal.items-preserved
items-preserved g c =
    one_so_far g.K.Sink.takes g.T.FromValue.reading _ _ _ _ _ _ _ _ _ c.items.invariant c.in-Some.ensures c.in_ok-from_value.ensures c.in_ok-take.ensures.taken

-- no value is left
pub returns-in_default : goal.returns-in_default
returns-in_default g c = all_so_far g.K.Sink.takes g.T.FromValue.reading _ _ _ _ _ c.items.invariant c.in_default.ensures.0
