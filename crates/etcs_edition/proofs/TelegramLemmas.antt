-- Telegrams by the edition are those of the codecs.
use Rattle.std.proofs.Common.{◌≡◌, Bool, List, [], ◌∷◌, ◌++◌, refl, sym, ap, ◌∙◌, lit<}
use Rattle.std.specs.List.{AllByRecursion, flat_map}
use Rattle.std.proofs.lemmas.List.{append-nil}
use Rattle.etcs_bits.specs.layout.Rows.{AreAllowed}
use Rattle.etcs_bits.specs.variables.Variables.{plain, only}
use Rattle.etcs_bits.specs.declared.layout.fault.FaultKind.TheVariants.{Downlink, Loop}
use Rattle.etcs_profile.specs.Track.{track_packet as track_format}
use Rattle.etcs_telegram.specs.declared.header.Header.{Header}
use Rattle.etcs_telegram.specs.declared.size.Size.{Size}
use Rattle.etcs_telegram.specs.declared.size.Size.TheVariants.{Short, Long}
use Rattle.etcs_telegram.specs.Header.{header as header_format}
use Rattle.etcs_telegram.specs.Record.{Telegram}
use Rattle.etcs_telegram.specs.Sizes.{user_bits as counted_bits}
use Rattle.etcs_telegram.specs.Telegram.{IsTelegram as IsDecodedTelegram, front_bits}
use Rattle.etcs_telegram.proofs.TelegramLemmas.{telegram_spelled, spelled_telegram}
use Rattle.etcs_edition.specs.Wire.{num, any_number, IsWritable, bits_of_fields}
use Rattle.etcs_edition.specs.TrackPackets.{track_packet_fields}
use Rattle.etcs_edition.specs.Telegram.{header_fields, telegram_fields, user_bits, IsTelegram}
use Rattle.etcs_edition.proofs.AgreeLemmas.{Agree, same_num, fit_first, fit_second, fit_append, bits_append, agree_both, agree_any, agree_bit, agree_flat}
use Rattle.etcs_edition.proofs.VariableLemmas.{agree_version, agree_dup, agree_identity}
use Rattle.etcs_edition.proofs.TrackLemmas.{agree_track_packet}

pub agree_header : (h : Header) → Agree (header_format.rows h) (header_fields h)
agree_header h =
    agree_any (only 1 1 Downlink) 1 refl (
    agree_both (agree_version h.version) (
    agree_any (only 1 0 Loop) 0 refl (
    agree_any (plain 3) h.position refl (
    agree_any (plain 3) h.total refl (
    agree_both (agree_dup h.dup) (
    agree_any (plain 8) h.counter refl (
    agree_both (agree_identity h.identity) (
    agree_bit h.linked))))))))

pub same_size : (size : Size) → counted_bits size ≡ user_bits size
same_size Short = refl
same_size Long = refl

pub front_same : (t : Telegram) → AreAllowed (header_format.rows t.header)
    → AreAllowed (flat_map track_format.rows t.packets)
    → front_bits t ≡ bits_of_fields (telegram_fields t)
front_same t first later =
    let h = (agree_header t.header).bits first in
    let p = (agree_flat agree_track_packet t.packets).bits later in
    let fields = flat_map track_packet_fields t.packets in
    rw (h, p, same_num 8 255)
    (sym (bits_append (header_fields t.header) (fields ++ any_number 8 255 ∷ []) ∙ ap (λ (bits : List Bool). bits_of_fields (header_fields t.header) ++ bits)
    (bits_append fields (any_number 8 255 ∷ []) ∙ ap (λ (bits : List Bool). bits_of_fields fields ++ bits) (append-nil (num 8 255)))))

-- ---- a whole telegram

pub telegram_fit : (t : Telegram) → AreAllowed (header_format.rows t.header) → AreAllowed (flat_map track_format.rows t.packets)
    → AllByRecursion IsWritable (telegram_fields t)
telegram_fit t first later =
    let fields = flat_map track_packet_fields t.packets in
    fit_append (header_fields t.header) (fields ++ any_number 8 255 ∷ []) ((agree_header t.header).fit first)
    (fit_append fields (any_number 8 255 ∷ []) ((agree_flat agree_track_packet t.packets).fit later) ((lit< tt, refl), tt))

pub telegram_allowed : (t : Telegram) → AllByRecursion IsWritable (telegram_fields t)
    → AreAllowed (header_format.rows t.header) × AreAllowed (flat_map track_format.rows t.packets)
telegram_allowed t fit =
    let fields = flat_map track_packet_fields t.packets in
    let later = fit_second (header_fields t.header) (fields ++ any_number 8 255 ∷ []) fit in (
      (agree_header t.header).allowed (fit_first (header_fields t.header) (fields ++ any_number 8 255 ∷ []) fit),
      (agree_flat agree_track_packet t.packets).allowed (fit_first fields (any_number 8 255 ∷ []) later),
    )

pub read_telegram : (t : Telegram) (bits : List Bool) → IsDecodedTelegram t bits → IsTelegram t bits
read_telegram t bits is =
    let x = telegram_spelled t bits is in
    record {
      fill = x.fill;
      spelling = bits_of_fields (telegram_fields t);
      spelled = (telegram_fit t x.header x.packets, refl);
      are = x.are ∙ ap (λ (bits : List Bool). bits ++ x.fill) (front_same t x.header x.packets);
      count = x.count ∙ same_size t.size;
    }

pub telegram_read : (t : Telegram) (bits : List Bool) → IsTelegram t bits → IsDecodedTelegram t bits
telegram_read t bits y =
    let parts = telegram_allowed t y.spelled.0 in
    spelled_telegram t bits (record {
      fill = y.fill;
      count = y.count ∙ sym (same_size t.size);
      header = parts.0;
      packets = parts.1;
      are = y.are ∙ ap (λ (bits : List Bool). bits ++ y.fill) (y.spelled.1 ∙ sym (front_same t parts.0 parts.1));
    })
