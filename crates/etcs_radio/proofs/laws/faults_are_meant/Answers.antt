use Rattle.etcs_radio.proofs.MessageLemmas.{fault_meant, meant_fault}
use Rattle.etcs_radio.proofs.NoMessageLemmas.{fault_none}
use Rattle.etcs_radio.proofs.laws.faults_are_meant.Goals as goal

-- both are faults of the head, or of the packets after a whole head
pub returns : goal.returns
returns c = record { fault = λ bytes f. (fault_meant bytes f, meant_fault bytes f); none = fault_none }
