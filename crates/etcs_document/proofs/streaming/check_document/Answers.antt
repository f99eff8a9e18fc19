use Rattle.etcs_document.proofs.StreamingLemmas.{counted, lists_checked}
use Rattle.etcs_document.proofs.streaming.check_document.Goals as goal

-- the groups and the messages were read and passed to the checker
pub returns : goal.returns
returns g c =
    counted _ _ _
    (lists_checked _ _ _ _ c.new-checker.ensures c.in_ok-check_keys.ensures.keys c.in_ok-read_list.ensures c.in_ok-read_list-2.ensures)
    c.in_ok-found_by.ensures.ok
