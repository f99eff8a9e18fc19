-- The canonical text of a telegram, or of a message, is the digits of its bits.
use Rattle.std.proofs.Common.{◌≡◌, ◌≤◌, ◌<◌, ◌+◌, ◌-◌, ◌*◌, ◌++◌, ◌∙◌, ℕ, suc, false, Bool, List, [], ◌∷◌, length, replicate, refl, sym, ap, ap₂, arith, length-append}
use Rattle.std.proofs.lemmas.List.{length-replicate}
use Rattle.etcs_bits.specs.layout.Rows.{join}
use Rattle.hex.specs.Hex.{IsBytes, encode_lower}
use Rattle.etcs_bits.specs.bits.Number.{bits_of_bytes, num, num_of_bits}
use Rattle.etcs_bits.proofs.NumberLemmas.{length-bits_of_bytes, num_of_bits-small}
use Rattle.etcs_radio.specs.declared.message.Message.{Message}
use Rattle.etcs_radio.specs.Message.{IsEncoding as IsMessageEncoding, message_rows, used_bits as message_bits}
use Rattle.etcs_radio.specs.Text.{IsCanonicalText as IsMessageText}
use Rattle.etcs_radio.proofs.EncodeLemmas.{message_width}
use Rattle.etcs_telegram.specs.Record.{Telegram}
use Rattle.etcs_telegram.specs.Text.{IsCanonicalText, no_pads}
use Rattle.etcs_run.specs.HexText.{byte_count, bytes_of_bits, padded_bits, message_text, telegram_text}

-- the first eight bits are the first byte
first_byte : (b : ℕ) (bits : List Bool) → bytes_of_bits (num 8 b ++ bits) ≡ num_of_bits (num 8 b) ∷ bytes_of_bits bits
unfolding num bytes_of_bits
first_byte b bits = refl

-- bytes are what their bits spell
pub bytes_again : (bytes : List ℕ) → IsBytes bytes → bytes_of_bits (bits_of_bytes bytes) ≡ bytes
unfolding bits_of_bytes bytes_of_bits
bytes_again [] small = refl
bytes_again (b ∷ bytes) small =
    first_byte b (bits_of_bytes bytes)
    ∙ ap₂ ◌∷◌ (num_of_bits-small 8 b (small 0)) (bytes_again bytes (λ i. small (suc i)))

-- the canonical text is the defined one
pub canonical_telegram : (t : Telegram) (text : List ℕ) → IsCanonicalText t text → text ≡ telegram_text t
unfolding telegram_text
canonical_telegram t text x =
    let bits = x.padded ∙ ap (λ bits. bits ++ no_pads t.size) x.encoding.canonical in
    x.written ∙ ap encode_lower (sym (bytes_again x.bytes x.in_range) ∙ ap bytes_of_bits bits)

-- the least number of bytes for the bits
fewest : (bits n : ℕ) → bits ≤ 8 * n → 8 * n < bits + 8 → n ≡ byte_count bits
fewest bits n enough few = omega arith

-- the number of bytes of a message
message_count : (m : Message) (bytes : List ℕ) → IsMessageEncoding m bytes → length bytes ≡ byte_count (message_bits m)
message_count m bytes x =
    let k = 8 * length bytes - message_bits m in
    let enough : message_bits m ≤ 8 * length bytes = omega (
      arith,
      ap length x.canonical,
      length-append (join (message_rows (length bytes) m)) (replicate k false),
      length-replicate k false,
      message_width (length bytes) m,
      length-bits_of_bytes bytes,
    ) in
    fewest (message_bits m) (length bytes) enough x.few

pub canonical_message : (m : Message) (text : List ℕ) → IsMessageText m text → text ≡ message_text m
unfolding message_text
canonical_message m text x =
    let bits = x.encoding.canonical ∙ ap (λ n. padded_bits n m) (message_count m x.bytes x.encoding) in
    x.written ∙ ap encode_lower (sym (bytes_again x.bytes x.encoding.in_range) ∙ ap bytes_of_bits bits)
