use Rattle.std.proofs.lemmas.Bool.Decides.{same_from_decides}
use Rattle.etcs_check.proofs.NumberLemmas.{Decides-same_packets}
use Rattle.etcs_check.proofs.duplicates.same_content.Goals as goal

-- The numbers of two lists of packets are equal if and only if the lists are.
pub returns : goal.returns
returns c = same_from_decides c.are_same.result _ c.are_same.ensures (Decides-same_packets c.args.these.now c.args.those.now)
