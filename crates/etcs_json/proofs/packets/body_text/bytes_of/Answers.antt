use Rattle.std.proofs.Common.{◌∙◌, length-set, arith}
use Rattle.etcs_schema.specs.BodyText.{padded_bits}
use Rattle.etcs_schema.proofs.BodyTextLemmas.{bytes_more}
use Rattle.etcs_json.proofs.packets.body_text.bytes_of.Goals as goal

-- one more byte is made
pub bytes-preserved : goal.bytes-preserved
bytes-preserved g c = record {
  whole = length-set c.bytes.bytes c.bytes.i _ ∙ c.bytes.invariant.whole;
  so_far = bytes_more c.bytes.bytes c.bytes.i (padded_bits c.args.bits.now) _ (omega arith) c.byte_at.ensures c.bytes.invariant.so_far;
}
