use Rattle.etcs_radio.proofs.DecodeLemmas.{head_fault_returned, ok_of, fault_of, none_of}
use Rattle.etcs_radio.proofs.decoding.decode.Goals as goal

-- each follows from what the bytes mean
pub returns : goal.returns
returns c =
    let r = c.read.result in
    let bytes = c.args.bytes.now in
    let exact = c.read.ensures.exact in
    let memory = c.read.ensures.memory in
    record {
      ok = ok_of r bytes exact;
      fault = fault_of r bytes exact;
      none = none_of r bytes exact;
      exact = exact;
      head = λ f fault. head_fault_returned r bytes f exact memory fault;
      memory = memory;
    }
