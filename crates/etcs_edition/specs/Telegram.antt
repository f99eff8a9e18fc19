-- The telegram of a balise, and the text that gives it (SUBSET-026, 7.4 and 8.4.2; SUBSET-036, 4.3). A
-- telegram is a header, packets and the end mark, filled up to the user bits of a short or a long telegram.
use Rattle.std.specs.Prelude.{◌≡◌, ℕ, ◌+◌, ◌-◌, ◌*◌, ◌<◌, Bool, false, Ok, List, [], ◌∷◌, ◌++◌, length, replicate}
use Rattle.std.specs.List.{flat_map}
use Rattle.hex.specs.Hex.{decode_of}
use Rattle.etcs_telegram.specs.declared.header.Header.{Header}
use Rattle.etcs_telegram.specs.declared.size.Size.{Size}
use Rattle.etcs_telegram.specs.declared.size.Size.TheVariants.{Short, Long}
use Rattle.etcs_telegram.specs.Record.{Telegram}
use Rattle.etcs_edition.specs.Wire.{Field, bits_of_bytes, any_number, bit, Spells}
use Rattle.etcs_edition.specs.Variables.{version_field, dup_field, identity_fields}
use Rattle.etcs_edition.specs.TrackPackets.{track_packet_fields}

-- the header (8.4.2)
abbrev pub header_fields : Header → List Field
header_fields h =
    any_number 1 1  -- Q_UPDOWN: track to train
    ∷ version_field h.version  -- M_VERSION
    ∷ any_number 1 0  -- Q_MEDIA: a balise
    ∷ any_number 3 h.position  -- N_PIG
    ∷ any_number 3 h.total  -- N_TOTAL
    ∷ dup_field h.dup  -- M_DUP
    ∷ any_number 8 h.counter  -- M_MCOUNT
    ∷ identity_fields h.identity  -- NID_C, NID_BG
    ++ bit h.linked ∷ []  -- Q_LINK

-- the header, the packets, and packet 255, the end mark (7.4.2)
abbrev pub telegram_fields : Telegram → List Field
telegram_fields t = header_fields t.header ++ flat_map track_packet_fields t.packets ++ any_number 8 255 ∷ []

-- how many bits a short and a long telegram have (SUBSET-036, 4.3)
abbrev pub user_bits : Size → ℕ
user_bits Short = 210
user_bits Long = 830

-- The bits are those of the telegram, and a fill that carries no information.
pub record IsTelegram (t : Telegram) (bits : List Bool) : Type 0 where
  pub fill : List Bool
  pub spelling : List Bool
  pub spelled : Spells (telegram_fields t) spelling
  pub are : bits ≡ spelling ++ fill
  pub count : length bits ≡ user_bits t.size

-- The text is the hexadecimal digits of bytes: the bits of the telegram, and zeros up to a whole byte.
pub record IsTelegramText (t : Telegram) (text : List ℕ) : Type 0 where
  pub bytes : List ℕ
  pub bits : List Bool
  pub decoded : decode_of text ≡ Ok bytes
  pub padded : bits_of_bytes bytes ≡ bits ++ replicate (length bytes * 8 - user_bits t.size) false
  pub whole : length bytes * 8 < user_bits t.size + 8
  pub telegram : IsTelegram t bits
