-- The form of a telegram (SUBSET-026, 8.4.2). Each key is named as the standard names its variable, in
-- small letters. NID_C and NID_BG are the identity of the balise's group. `user_bits` and `packets` are
-- this project's. Keys are in the order in which they are read.
use Rattle.std.specs.Prelude.{◌≡◌, ◌<◌, ◌++◌, ℕ, ◌==◌, ◌||◌, Bool, true, List, [], Ok, codes, if◌then◌else◌, refl}
use Rattle.etcs_schema.specs.Prelude.{and_from, ap, arith, lt-ltb, ◌∙◌, flat_map, Row}
use Rattle.etcs_bits.specs.declared.layout.fault.FaultKind.TheVariants.{Downlink, Loop}
use Rattle.etcs_bits.specs.variables.Variables.{only as only_number}
use Rattle.etcs_profile.specs.Track.{track_packet as track_layout}
use Rattle.etcs_telegram.specs.Header.{header as header_layout, header_struct, m_mcount, n_pig, n_total}
use Rattle.etcs_telegram.specs.Record.{Telegram}
use Rattle.etcs_telegram.specs.Sizes.{user_bits}
use Rattle.etcs_telegram.specs.declared.size.Size.{Size}
use Rattle.etcs_telegram.specs.declared.size.Size.TheVariants.{Short, Long}
use Rattle.etcs_schema.specs.Lists.{listed}
use Rattle.etcs_schema.specs.Reading.{as_kind, allowed_number}
use Rattle.etcs_schema.specs.ReadBack.{number_back}
use Rattle.etcs_json.specs.Report.{identity}
use Rattle.etcs_schema.specs.Codec.{ObjectMembers, MemberCodec, Codec, closed, key, named, number_again, number_data, struct, unstated, ◌then◌}
use Rattle.etcs_json.specs.TrackPackets.{track_packet, track_shallow}
use Rattle.etcs_schema.specs.Variables.{duplicate, flag, number, version}

-- whether a telegram may have n user bits
abbrev pub is_size : ℕ → Bool
is_size n = (n == 210) || (n == 830)

-- the size of a telegram of 210 or 830 user bits
abbrev pub size_from_bits : ℕ → Size
size_from_bits n = if n == 210 then Short else Long

pub is_one : (s : Size) → is_size (user_bits s) ≡ true
is_one Short = refl
is_one Long = refl

pub is_few : (s : Size) → user_bits s < 831
is_few Short = omega arith
is_few Long = omega arith

pub size_again : (s : Size) → size_from_bits (user_bits s) ≡ s
size_again Short = refl
size_again Long = refl

-- a size, as its number of user bits (SUBSET-036, 4.3)
abbrev pub size : Codec Size
size = record {
  rows = λ _. [];
  to = λ s. number_data (user_bits s);
  of = λ d. as_kind size_from_bits (allowed_number is_size d);
  again =
      λ s _. ap (as_kind size_from_bits) (number_again is_size (user_bits s) (is_one s))
      ∙ ap Ok (size_again s);
  back = (0, λ n deep s _. number_back 831 n (user_bits s) deep (is_few s));
}

-- the header; the bits have Q_UPDOWN and Q_MEDIA too
unfoldable pub header : MemberCodec header_layout.rows
header =
    struct header_struct
    (unstated (only_number 1 1 Downlink) 1 (key (codes "m_version") version
    then unstated (only_number 1 0 Loop) 0
    (key (codes "n_pig") (number n_pig.fields) then key (codes "n_total") (number n_total.fields)
    then key (codes "m_dup") duplicate then key (codes "m_mcount") (number m_mcount.fields)
    then identity (codes "nid_c") (codes "nid_bg") then key (codes "q_link") flag)))

abbrev pub telegram_rows : Telegram → List Row
telegram_rows t = header_layout.rows t.header ++ flat_map track_layout.rows t.packets

-- a telegram with any number of packets, also with more than fit its size
unfoldable pub telegram : ObjectMembers telegram_rows
unfolding header
telegram =
    closed (named
    (λ p. record { size = p.0; header = p.1.0; packets = p.1.1 })
    (λ t. (t.size, (t.header, t.packets)))
    (λ _. refl)
    (key (codes "user_bits") size then header then key (codes "packets") (listed track_packet)))
    (and_from _ _ refl (lt-ltb _ _ (omega (arith, track_shallow))))
