use Rattle.std.proofs.Common.{◌≡◌, ℕ, List, [], ◌∷◌, true, nat_lt, refl, sym, subst}
use Rattle.std.specs.List.{list_all}
use Rattle.std.specs.Str.{IsAscii}
use Rattle.std.proofs.lemmas.Bool.{and_parts, ltb-true}
use Rattle.std.proofs.lemmas.Str.{IsUtf8-from_ascii}
use Rattle.std.proofs.lemmas.Str.Ascii.{IsAscii-nil, IsAscii-cons}
use Rattle.hex.specs.Hex.{lower_digits}
use Rattle.hex.proofs.HexLemmas.{IsAscii-encode_with}
use Rattle.etcs_json.proofs.packets.body_text.write_in_room.Goals as goal

ascii_from : (bs : List ℕ) → list_all (λ b. nat_lt b 128) bs ≡ true → IsAscii bs
ascii_from [] all = IsAscii-nil
ascii_from (b ∷ bs) all =
    let parts = and_parts _ _ all in
    IsAscii-cons b bs (ltb-true b 128 parts.0) (ascii_from bs parts.1)

-- hexadecimal digits are text
pub unreachable-requires-in_default-from_utf8 : goal.unreachable-requires-in_default-from_utf8
unreachable-requires-in_default-from_utf8 g c =
    let ascii = IsAscii-encode_with lower_digits _ (ascii_from lower_digits refl) in
    c.in_default-from_utf8.ensures.cases.0 (IsUtf8-from_ascii _ (subst IsAscii (sym c.in-Ok.ensures.written) ascii))
