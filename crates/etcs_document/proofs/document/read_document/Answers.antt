use Rattle.etcs_document.proofs.DocumentLemmas.{line_read}
use Rattle.etcs_document.proofs.TakenLemmas.{kept_items}
use Rattle.etcs_document.proofs.document.read_document.Goals as goal

-- the groups and the messages were read and kept
pub returns : goal.returns
returns g c =
    line_read _ _ _ c.in_ok-check_keys.ensures.keys (kept_items _ _ _ _ c.new-groups.ensures.items c.in_ok-read_list.ensures)
    (kept_items _ _ _ _ c.new-messages.ensures.items c.in_ok-read_list-2.ensures)
