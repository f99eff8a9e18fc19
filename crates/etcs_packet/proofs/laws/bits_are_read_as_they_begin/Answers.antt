use Rattle.std.proofs.Common.{arith}
use Rattle.etcs_packet.specs.Whole.{start}
use Rattle.etcs_packet.proofs.WholeLemmas.{begins_means, means_begins, fault_means, means_fault, whole_fault_is_read, read_is_whole_fault}
use Rattle.etcs_packet.proofs.laws.bits_are_read_as_they_begin.Goals as goal

-- what bits mean is what reading gives at their beginning
pub returns : goal.returns
returns g c =
    let head = g.H.Layout.format in
    let item = g.T.Layout.format in
    record {
      whole = λ stop h xs bits. (
        λ begins. begins_means head.laid item.laid stop h xs bits c.requires begins,
        λ means. means_begins head.laid item.laid stop h xs bits c.requires means,
      );
      fault = λ stop bits f. (
        λ here. fault_means stop head.fields head.of item.fields item.of bits f
            (whole_fault_is_read head.of item.of stop head.fields item.fields (start bits) f c.requires (omega arith) here),
        λ means. read_is_whole_fault head.of item.of stop head.fields item.fields (start bits) f (omega arith)
            (means_fault stop head.fields head.of item.fields item.of bits f means),
      );
    }
