-- A packet that is kept as bits, found again in its rows.
-- Pinned by the law a_record_is_read_as_it_is_spelled.
use Rattle.std.specs.Prelude.{◌≡◌, ℕ, Bool, true, false, List, [], length, refl}
use Rattle.etcs_bits.specs.declared.variables.direction.Dir.{Dir}
use Rattle.etcs_profile.specs.declared.raw.RawPacket.{RawPacket}
use Rattle.etcs_profile.specs.PacketNumbers.{is_kept}

-- the packet of these parts, where they make one, and of any parts
abbrev pub raw : (n : ℕ) → Dir → (body : List Bool) → is_kept n (length body) ≡ true → RawPacket
raw n dir body kept = record { number = n; dir = dir; body = body; kept = kept }

abbrev pub raw_if_kept : (n : ℕ) → Dir → (body : List Bool)
    → (b : Bool) → is_kept n (length body) ≡ b → RawPacket
raw_if_kept n dir body true kept = raw n dir body kept
raw_if_kept n dir body false other = raw 1 dir [] refl

abbrev pub make_raw : ℕ → Dir × List Bool → RawPacket
make_raw n p = raw_if_kept n p.0 p.1 (is_kept n (length p.1)) refl
