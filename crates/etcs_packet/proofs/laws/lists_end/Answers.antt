use Rattle.etcs_packet.proofs.WrittenLemmas.{mark_ends, few_end, few_go_on, ends_behind, ends_only}
use Rattle.etcs_packet.proofs.laws.lists_end.Goals as goal

-- the number of bits that are left, and the first eight of them, decide it
pub returns : goal.returns
returns c = record { mark = mark_ends; message = few_end; telegram = few_go_on; after = ends_behind; only = ends_only }
