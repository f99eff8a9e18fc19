use Rattle.std.proofs.Common.{refl, ap, ◌∙◌, length, Ok, arith}
use Rattle.std.proofs.lemmas.Result.{err_from_is_err_and}
use Rattle.etcs_bits.specs.declared.layout.fault.FaultKind.TheVariants.{NoAuthority}
use Rattle.etcs_profile.specs.Track.{track_packet}
use Rattle.etcs_radio.specs.Meaning.{movement_message}
use Rattle.etcs_radio.specs.Required.{has_authority}
use Rattle.etcs_radio.proofs.MessageLemmas.{stand_bits}
use Rattle.etcs_radio.proofs.PacketsLemmas.{both_memory, by_fails, by_ok, by_err, not_there, movement_made}
use Rattle.etcs_radio.proofs.decoding.movement.Goals as goal

-- the fault of the packets is the fault of the message
pub returns-in_err-packets-clause-means : goal.returns-in_err-packets-clause-means
returns-in_err-packets-clause-means c =
    let failed = err_from_is_err_and c.from_residual.result c.from_residual.ensures.1 in
    rw (failed.1, failed.2) (by_fails track_packet has_authority NoAuthority (movement_message c.args.fields) c.in_err-packets.field-0.0 c.args.cur.now c.in_err-packets.ensures.exact)

pub incomplete-requires : goal.incomplete-requires
incomplete-requires c =
    let same = stand_bits track_packet.rows c.in_ok-packets.packets.items c.args.cur.now c.read_packets.new.cur c.in_ok-packets.ensures.ok in
    omega (arith, c.requires, ap length same)

-- packet 15 is there
pub returns-in-Ok-clause-means : goal.returns-in-Ok-clause-means
returns-in-Ok-clause-means c =
    let items = c.in_ok-packets.packets.items in
    by_ok track_packet has_authority NoAuthority (movement_message c.args.fields) items c.args.cur.now c.read_packets.new.cur c.in_ok-packets.ensures.exact (c.in-Ok.ensures.made.0 refl)
    ∙ ap Ok (movement_made c.args.fields items c.identity.result c.in-Ok.message c.identity.ensures c.in-Ok.ensures.ok)

-- packet 15 is not there
pub returns-in-Err-clause-means : goal.returns-in-Err-clause-means
returns-in-Err-clause-means c =
    let items = c.in_ok-packets.packets.items in
    let none = not_there c.new.result _ (has_authority items) c.new.ensures.made c.in-Err.is in
    rw c.incomplete.ensures
    (by_err track_packet has_authority NoAuthority (movement_message c.args.fields) items c.args.cur.now c.read_packets.new.cur c.in_ok-packets.ensures.exact none)

-- only packets take memory
pub returns-in_err-packets-clause-memory : goal.returns-in_err-packets-clause-memory
returns-in_err-packets-clause-memory c =
    let failed = err_from_is_err_and c.from_residual.result c.from_residual.ensures.1 in
    rw (failed.1, failed.2) (both_memory _ _ c.in_err-packets.field-0.0 c.in_err-packets.ensures.memory c.in_err-packets.ensures.first)

pub returns-in-Err-clause-memory : goal.returns-in-Err-clause-memory
returns-in-Err-clause-memory c = rw c.incomplete.ensures tt
