use Rattle.std.proofs.Common.{◌≡◌, ap, List, Ok, Err, Some, length}
use Rattle.std.proofs.lemmas.Result.{err_from_is_err_and}
use Rattle.etcs_packet.specs.declared.stop.Stop.TheVariants as stops
use Rattle.etcs_profile.specs.declared.track.TrackPacket.{TrackPacket}
use Rattle.etcs_profile.specs.Track.{track_packet}
use Rattle.etcs_packet.proofs.ListLemmas.{no_error, same_error}
use Rattle.etcs_packet.proofs.WholeLemmas.{gives_means}
use Rattle.etcs_telegram.specs.declared.header.Header.{Header}
use Rattle.etcs_telegram.specs.Header.{header}
use Rattle.etcs_telegram.specs.Sizes.{size_from_bits}
use Rattle.etcs_telegram.proofs.TelegramLemmas.{read_meaning, failed_meaning}
use Rattle.etcs_telegram.proofs.decoding.decode_slice.Goals as goal

-- the cursor is at the beginning of the bits
pub returns-in_err-header-clause-none : goal.returns-in_err-header-clause-none
returns-in_err-header-clause-none c =
    let failed = err_from_is_err_and c.from_residual.result c.from_residual.ensures.1 in
    rw (failed.1, failed.2) (rw c.over-cur.ensures at c.in_err-header.ensures.none)

-- the telegram is refused for the same reason as its header and packets
pub returns-in_err-header-clause-exact : goal.returns-in_err-header-clause-exact
returns-in_err-header-clause-exact c =
    let failed = err_from_is_err_and c.from_residual.result c.from_residual.ensures.1 in
    let fails = gives_means {Y = Header × List TrackPacket} (λ w. w) (Err c.in_err-header.field-0.0) stops.Telegram header.fields header.of track_packet.fields track_packet.of c.args.bits c.next_whole.new.cur (rw c.over-cur.ensures at c.in_err-header.ensures.exact) in
    rw (failed.1, failed.2) (failed_meaning c.in_err-header.field-0.0 c.args.bits fails)

-- the header and packets that are read are the telegram, with the size that was found
pub returns-clause-exact : goal.returns-clause-exact
returns-clause-exact c =
    let found : size_from_bits (length c.args.bits) ≡ Some c.unwrap-size.result = cc (c.of_len.ensures, c.len.ensures, c.unwrap-size.ensures) in
    let means = gives_means {Y = Header × List TrackPacket} (λ w. w) (Ok (c.in_ok-header.header, c.in_ok-header.packets.items)) stops.Telegram header.fields header.of track_packet.fields track_packet.of c.args.bits c.next_whole.new.cur (rw c.over-cur.ensures at c.in_ok-header.ensures.exact) in
    read_meaning c.in_ok-header.header c.in_ok-header.packets.items c.unwrap-size.result c.args.bits found means

-- the header has no list
pub returns-in_err-header-clause-header : goal.returns-in_err-header-clause-header
returns-in_err-header-clause-header c = λ f fault.
    let failed = err_from_is_err_and c.from_residual.result c.from_residual.ensures.1 in
    let head = rw c.over-cur.ensures at c.in_err-header.ensures.head in
    rw (failed.1, failed.2) (ap Err (same_error _ _ (head (λ none. none) f fault)))

-- a header that was read has no fault
pub returns-clause-header : goal.returns-clause-header
returns-clause-header c = λ f fault.
    let head = rw c.over-cur.ensures at c.in_ok-header.ensures.head in
    no_error _ _ (head (λ none. none) f fault)

-- the header takes no memory
pub returns-in_err-header-clause-memory : goal.returns-in_err-header-clause-memory
returns-in_err-header-clause-memory c =
    let failed = err_from_is_err_and c.from_residual.result c.from_residual.ensures.1 in
    let memory = rw c.over-cur.ensures at c.in_err-header.ensures.memory in
    rw (failed.1, failed.2) (memory (λ none. none))
