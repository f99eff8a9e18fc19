-- L_PACKET and the body that it counts (SUBSET-026, 7.4.1), in the form of a packet whose layout is not
-- known.
use Rattle.std.specs.Prelude.{◌≡◌, ◌+◌, ◌-◌, ◌^◌, ◌&&◌, ℕ, Bool, List, [], ◌∷◌, Some, Result, Ok, codes, length, ltb, nat_le, refl}
use Rattle.etcs_schema.specs.Prelude.{arith, Data, string, l_kept, kept_bits, AreAllowed}
use Rattle.etcs_schema.specs.BodyText.{decoded_body, body_text}
use Rattle.etcs_schema.specs.lemmas.BodyLemmas.{body_again}
use Rattle.etcs_schema.specs.ReadBack.{number_back, string_back}
use Rattle.etcs_schema.specs.Entries.{HasEntries}
use Rattle.etcs_schema.specs.Fault.{Fault}
use Rattle.etcs_schema.specs.Reading.{◌>>=◌, required_member, allowed_number}
use Rattle.etcs_schema.specs.Codec.{MemberCodec, key_again, number_again, number_data}
use Rattle.etcs_schema.specs.Variables.{number_allowed}

-- whether L_PACKET may be this number: it has 13 bits, and counts the bits of the head too
abbrev pub is_length : ℕ → ℕ → Bool
is_length head l = ltb l (2 ^ 13) && nat_le head l

-- L_PACKET, and then the body that it counts after the head
abbrev pub decoded_counted_body : ℕ → Data → Result (List Bool) Fault
decoded_counted_body head d =
    required_member (allowed_number (is_length head)) (codes "l_packet") d
    >>= λ l. required_member (decoded_body (l - head)) (codes "body") d

-- ---- reading what was written

pub counted_body_again : (before : ℕ) (body : List Bool) (d : Data)
    → AreAllowed ((kept_bits before).rows body)
    → HasEntries
    ((codes "l_packet", Some (number_data (before + 13 + length body)))
    ∷ (codes "body", Some (string (body_text body))) ∷ []) d
    → decoded_counted_body (before + 13) d ≡ Ok body
counted_body_again before body d allowed holds =
    let l = before + 13 + length body in
    let rest : l - (before + 13) ≡ length body = omega arith in
    let fits = number_again (is_length (before + 13)) l (number_allowed (l_kept before) l allowed.0) in
    rw (
      key_again number_data (allowed_number (is_length (before + 13))) (codes "l_packet") l d fits
          (holds.0, tt),
      rest,
    )
    (key_again (λ b. string (body_text b)) (decoded_body (length body))
    (codes "body") body d (body_again body) (holds.1.0, tt))

-- L_PACKET and the body; L_PACKET counts the `before` bits in front of it, its own bits and the body's
abbrev pub counted_body : (before : ℕ) → MemberCodec (kept_bits before).rows
counted_body before = record {
  keys = codes "l_packet" ∷ codes "body" ∷ [];
  to =
      λ body. (codes "l_packet", Some (number_data (before + 13 + length body))) ∷
      (codes "body", Some (string (body_text body))) ∷ [];
  of = decoded_counted_body (before + 13);
  has_keys = λ body. refl;
  again = counted_body_again before;
  back = (
    0,
    λ n deep body h. (number_back (2 ^ 13) n _ deep h.0.0, (string_back n (body_text body), tt)),
  );
}
