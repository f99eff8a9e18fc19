use Rattle.etcs_radio.proofs.WriteLemmas.{is_encoding}
use Rattle.etcs_radio.proofs.encoding.write.Goals as goal

-- zeros fill the last byte
pub returns : goal.returns
returns c =
    let in_range = rw c.as_slice.ensures.value at c.keep_range.ensures in
    is_encoding c.args.message.now c.args.count c.new-bits.result c.put.new.out c.in_ok-bytes.bytes.items in_range c.requires.few c.requires.enough c.new-bits.ensures c.in_ok-put.ensures.bits c.in_ok-put.ensures.allowed c.in_ok-put.ensures.complete c.in_ok-bytes.ensures.bits c.in_ok-bytes.ensures.few
