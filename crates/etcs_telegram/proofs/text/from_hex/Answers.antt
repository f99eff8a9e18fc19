use Rattle.etcs_telegram.specs.declared.error.TextError.TheVariants as errors
use Rattle.etcs_telegram.proofs.ReasonLemmas.{header_reported, ok_of, reason_of, reported}
use Rattle.etcs_telegram.proofs.text.from_hex.Goals as goal

-- each follows from what the text means
pub returns : goal.returns
returns c =
    let r = c.read.result in
    let text = c.args.text.now in
    let exact = c.read.ensures.exact in
    let packets = c.read.ensures.packets in
    record {
      ok = ok_of r text exact;
      reason = reason_of r text exact;
      exact = exact;
      not_hex = reported r text errors.NotHex tt exact packets;
      wrong_size = reported r text errors.WrongSize tt exact packets;
      pad_bits = reported r text errors.PadBits tt exact packets;
      header = λ f x. header_reported r text f exact packets x;
      packets = packets;
    }
