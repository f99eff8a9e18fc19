use Rattle.std.proofs.Common.{◌-◌, ◌∙◌, length, sym, subst, List, Bool, arith}
use Rattle.etcs_packet.specs.declared.stop.Stop.TheVariants as stops
use Rattle.etcs_packet.specs.Whole.{IsFollowed, start}
use Rattle.etcs_telegram.specs.Header.{header}
use Rattle.etcs_telegram.specs.Sizes.{byte_count}
use Rattle.etcs_telegram.proofs.TextLemmas.{size_counts, padded_when}
use Rattle.etcs_telegram.proofs.text.telegram_in.Goals as goal

-- only a packet takes memory
pub returns-in-Err-Memory-clause-packets : goal.returns-in-Err-Memory-clause-packets
returns-in-Err-Memory-clause-packets c = λ _.
    let size = c.in-Some.size in
    let bytes = c.args.bytes.now in
    let count = size_counts (length bytes) size (sym c.in_bytes.ensures ∙ c.in-Some.is) in
    let is = rw c.user_bits.ensures at c.of_bytes.ensures.bits in
    let due = rw c.in-Err-Memory.field-0-is at c.in-Err-Memory.ensures.memory in
    record {
      size = size;
      padded = padded_when size bytes count (omega (arith, c.type_inv.bytes (byte_count size - 1))) (sym c.is_padded.ensures ∙ c.if-not-is_padded.false);
      followed = subst (λ (bits : List Bool). IsFollowed stops.Telegram header.rows (start bits)) is due;
    }
