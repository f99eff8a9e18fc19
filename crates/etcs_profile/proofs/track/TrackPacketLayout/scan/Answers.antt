use Rattle.std.proofs.Common.{◌≡◌, true, false, Ok, refl, sym, ◌∙◌}
use Rattle.etcs_bits.specs.layout.Rows.{alone}
use Rattle.etcs_bits.specs.layout.Reading.{read_rows}
use Rattle.etcs_bits.proofs.SumLemmas.{chosen_gives, rest_read}
use Rattle.etcs_profile.specs.PacketNumbers.{is_kept_number, nid_track}
use Rattle.etcs_profile.specs.Growth.{copy_grows}
use Rattle.etcs_profile.specs.Track.{known_grows, track_numbered, track_parts}
use Rattle.etcs_profile.specs.Raw.{raw_rest}
use Rattle.etcs_profile.proofs.GrowthLemmas.{memory_follows, if_memory, grows_then, grows_else}
use Rattle.etcs_profile.proofs.TrackLemmas.{other_next}
use Rattle.etcs_profile.proofs.track.TrackPacketLayout.scan.Goals as goal

-- the packet has the number, the direction and the body that were read
pub returns-then-has_number-clause-gives : goal.returns-then-has_number-clause-gives
unfolding alone
returns-then-has_number-clause-gives c =
    let n = c.in_ok-number.number in
    let dir = c.in_ok-dir.dir in
    let body = c.in_ok-dir.body in
    let other : is_kept_number n ≡ true = sym (c.has_number.ensures.value c.in_ok-number.ensures.number.0) ∙ c.if-has_number.true in
    let rest : read_rows (track_numbered.next n) c.scan_number.new.cur ≡ Ok (raw_rest.rows (dir, body), c.scan_rest.new.cur) = rw (other_next n other) c.in_ok-dir.ensures.gives in
    let read = rest_read nid_track track_numbered.next n n c.args.cur.now c.scan_number.new.cur c.scan_rest.new.cur (raw_rest.rows (dir, body)) c.in_ok-number.ensures.gives refl rest in
    rw (c.in_ok-packet.ensures.ok.0, c.in_ok-packet.ensures.ok.1.0, c.in_ok-packet.ensures.ok.1.1) read

-- the packet that was read
pub returns-clause-gives : goal.returns-clause-gives
unfolding alone
returns-clause-gives c =
    chosen_gives track_parts nid_track track_numbered c.in_ok-number.number c.args.cur.now c.scan_number.new.cur c.scan_known.new.cur c.scan_known.result c.in_ok-number.ensures.gives c.scan_known.ensures.gives

-- a body that is not empty is copied
pub returns-in_err-packet-clause-memory : goal.returns-in_err-packet-clause-memory
returns-in_err-packet-clause-memory c =
    let n = c.in_ok-number.number in
    let other : is_kept_number n ≡ true = sym (c.has_number.ensures.value c.in_ok-number.ensures.number.0) ∙ c.if-has_number.true in
    let copied : copy_grows c.scan_number.new.cur = ((c.in_ok-dir.dir, c.in_ok-dir.body), c.scan_rest.new.cur, c.in_ok-dir.ensures.gives, c.in_err-packet.ensures.memory) in
    if_memory c.from_residual-in_err-packet.result (n, c.scan_number.new.cur, c.in_ok-number.ensures.gives, grows_then (is_kept_number n) copy_grows (known_grows n) c.scan_number.new.cur other copied)

-- what follows the number of a known packet grows
pub returns-clause-memory : goal.returns-clause-memory
returns-clause-memory c =
    let n = c.in_ok-number.number in
    let known : is_kept_number n ≡ false = sym (c.has_number.ensures.value c.in_ok-number.ensures.number.0) ∙ c.if-has_number.false in
    memory_follows c.scan_known.result (λ (grows : known_grows n c.scan_number.new.cur). (n, c.scan_number.new.cur, c.in_ok-number.ensures.gives, grows_else (is_kept_number n) copy_grows (known_grows n) c.scan_number.new.cur known grows)) c.scan_known.ensures.memory
