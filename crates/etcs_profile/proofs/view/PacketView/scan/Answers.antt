use Rattle.std.proofs.Common.{◌≡◌, true, Ok, Err, refl, sym, ◌∙◌}
use Rattle.std.proofs.lemmas.Result.{err_from_is_err_and}
use Rattle.etcs_bits.specs.layout.Rows.{alone}
use Rattle.etcs_bits.specs.layout.Reading.{read_rows}
use Rattle.etcs_bits.proofs.SumLemmas.{rest_read, chosen_read}
use Rattle.etcs_profile.specs.declared.track.TrackPacket.{TrackPacket}
use Rattle.etcs_profile.specs.declared.track.TrackPacket.TheVariants as packets
use Rattle.etcs_profile.specs.declared.view.PacketView.{PacketView}
use Rattle.etcs_profile.specs.declared.view.PacketView.TheVariants as views
use Rattle.etcs_profile.specs.PacketNumbers.{is_kept_number, nid_track}
use Rattle.etcs_profile.specs.FoundRaw.{raw}
use Rattle.etcs_profile.specs.Raw.{raw_rest}
use Rattle.etcs_profile.specs.Track.{IsKnown, known_grows, track_numbered}
use Rattle.etcs_profile.specs.View.{packet_view}
use Rattle.etcs_profile.proofs.GrowthLemmas.{memory_follows}
use Rattle.etcs_profile.proofs.TrackLemmas.{other_next}
use Rattle.etcs_profile.proofs.view.PacketView.scan.Goals as goal

known_view : (p : TrackPacket) → IsKnown p → packet_view p ≡ views.Known p
known_view (packets.Raw r) known = absurd known
known_view p known = refl

-- the packet has the number, the direction and the body that were read
pub returns-then-has_number-clause-gives : goal.returns-then-has_number-clause-gives
unfolding alone
returns-then-has_number-clause-gives c =
    let n = c.in_ok-number.number in
    let dir = c.in_ok-dir.dir in
    let body = c.in_ok-dir.body in
    let other : is_kept_number n ≡ true = sym (c.has_number.ensures.value c.in_ok-number.ensures.number.0) ∙ c.if-has_number.true in
    let few = c.in_ok-dir.ensures.few in
    let seen = raw n dir body (rw (other, few) refl) in
    let rest : read_rows (track_numbered.next n) c.scan_number.new.cur ≡ Ok (raw_rest.rows (dir, body), c.scan_rest.new.cur) = rw (other_next n other) c.in_ok-dir.ensures.gives in
    (packets.Raw seen, refl, rest_read nid_track track_numbered.next n n c.args.cur.now c.scan_number.new.cur c.scan_rest.new.cur (raw_rest.rows (dir, body)) c.in_ok-number.ensures.gives refl rest)

-- the packet that was read
pub returns-clause-gives : goal.returns-clause-gives
unfolding alone
returns-clause-gives c =
    let n = c.in_ok-number.number in
    let p = c.in_ok-scan_known.field-0 in
    (p, known_view p c.in_ok-scan_known.ensures.known, chosen_read nid_track track_numbered track_numbered.next n c.args.cur.now c.scan_number.new.cur _ _ c.in_ok-number.ensures.gives refl c.in_ok-scan_known.ensures.gives)

-- what follows the number grows
pub returns-in_err-scan_known-clause-memory : goal.returns-in_err-scan_known-clause-memory
returns-in_err-scan_known-clause-memory c =
    let failed = err_from_is_err_and c.from_residual-in_err-scan_known.result c.from_residual-in_err-scan_known.ensures.1 in
    let n = c.in_ok-number.number in
    rw (failed.1, failed.2) (memory_follows {X = PacketView} (Err c.in_err-scan_known.field-0.0) (λ (grows : known_grows n c.scan_number.new.cur). (n, c.scan_number.new.cur, c.in_ok-number.ensures.gives, grows)) c.in_err-scan_known.ensures.memory)
