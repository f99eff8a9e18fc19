use Rattle.etcs_radio.proofs.TextLemmas.{head_fault_returned, not_hex_returned, ok_of, reason_of}
use Rattle.etcs_radio.proofs.text.from_hex.Goals as goal

-- each follows from what the text means
pub returns : goal.returns
returns c =
    let r = c.read.result in
    let text = c.args.text.now in
    let exact = c.read.ensures.exact in
    let packets = c.read.ensures.packets in
    record {
      ok = ok_of r text exact;
      reason = reason_of r text exact;
      exact = exact;
      not_hex = not_hex_returned r text exact packets;
      head = λ f x. head_fault_returned r text f exact packets x;
      packets = packets;
    }
