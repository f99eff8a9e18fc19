-- The text of a packet's body. Zeros after the last bit fill the body up to a whole byte. Then each
-- byte is two hexadecimal digits: lower case is written, and either case is read.
use Rattle.std.specs.Prelude.{ℕ, zero, suc, ◌+◌, ◌-◌, ◌*◌, ◌/◌, ◌==◌, ◌&&◌, Bool, false, List, [], ◌∷◌, ◌++◌, length, take, drop, replicate, Option, Some, None, Result, Ok, Err, if◌then◌else◌}
use Rattle.etcs_schema.specs.Prelude.{Data, as_str}
use Rattle.hex.specs.Hex.{decode_of, encode_lower}
use Rattle.hex.specs.declared.error.FromHexError.{FromHexError}
use Rattle.etcs_bits.specs.bits.Number.{bits_of_bytes, num_of_bits}
use Rattle.etcs_schema.specs.Fault.{Fault, Kind, Range, here}

-- the number of bytes for this number of bits
abbrev pub byte_count : ℕ → ℕ
byte_count bits = (bits + 7) / 8

-- the bits, and then zeros up to a whole byte
abbrev pub padded_bits : List Bool → List Bool
padded_bits bits = bits ++ replicate (8 * byte_count (length bits) - length bits) false

-- the first n bytes, each made of eight bits
unfoldable pub packed_bytes : ℕ → List Bool → List ℕ
packed_bytes zero bits = []
packed_bytes (suc n) bits = num_of_bits (take 8 bits) ∷ packed_bytes n (drop 8 bits)

-- the bytes of a body
abbrev pub body_bytes : List Bool → List ℕ
body_bytes body = packed_bytes (byte_count (length body)) (padded_bits body)

-- the text of a body
abbrev pub body_text : List Bool → List ℕ
body_text body = encode_lower (body_bytes body)

-- whether the bits after the first `count` are zeros
abbrev pub are_padded : ℕ → List ℕ → Bool
are_padded count bytes = num_of_bits (drop count (bits_of_bytes bytes)) == 0

-- the first `count` bits of exactly as many bytes as these bits need; no other bit may be set
abbrev pub first_bits : ℕ → List ℕ → Result (List Bool) Fault
first_bits count bytes =
    if (length bytes == byte_count count) && are_padded count bytes
    then Ok (take count (bits_of_bytes bytes)) else Err (here Range)

abbrev pub decoded_or : ℕ → Result (List ℕ) FromHexError → Result (List Bool) Fault
decoded_or count (Err e) = Err (here Kind)
decoded_or count (Ok bytes) = first_bits count bytes

abbrev pub digits_or : ℕ → Option (List ℕ) → Result (List Bool) Fault
digits_or count None = Err (here Kind)
digits_or count (Some digits) = decoded_or count (decode_of digits)

-- a body of `count` bits
unfoldable pub decoded_body : ℕ → Data → Result (List Bool) Fault
decoded_body count d = digits_or count (as_str d)
