use Rattle.etcs_telegram.proofs.LawLemmas.{fault_meant, meant_fault, fault_none}
use Rattle.etcs_telegram.proofs.laws.faults_are_meant.Goals as goal

-- both are faults of the header, or of the packets after a whole header
pub returns : goal.returns
returns c = record { fault = λ bits f. (fault_meant bits f, meant_fault bits f); none = fault_none }
