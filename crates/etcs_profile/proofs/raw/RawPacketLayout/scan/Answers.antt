use Rattle.std.proofs.Common.{refl, sym, ◌∙◌}
use Rattle.etcs_bits.specs.layout.Rows.{alone}
use Rattle.etcs_bits.proofs.SumLemmas.{number_read, rest_read}
use Rattle.etcs_profile.specs.PacketNumbers.{nid_raw}
use Rattle.etcs_profile.specs.Raw.{others, raw_rest}
use Rattle.etcs_profile.proofs.GrowthLemmas.{if_memory}
use Rattle.etcs_profile.proofs.raw.RawPacketLayout.scan.Goals as goal

-- the number is one that is kept as bits, and what follows it is read
pub returns-clause-gives : goal.returns-clause-gives
unfolding alone
returns-clause-gives c =
    let n = c.in_ok-number.number in
    let small = c.has_number.ensures.small c.if-not-has_number.false in
    let other = sym (c.has_number.ensures.value small) ∙ c.if-not-has_number.false in
    let number = number_read nid_raw n c.args.cur.now c.take.new.self refl other c.in_ok-number.ensures.exact in
    let made = c.in_ok-packet.ensures.ok in
    rw (made.0, made.1.0, made.1.1) (rest_read nid_raw others.next n n c.args.cur.now c.take.new.self c.scan_rest.new.cur (raw_rest.rows (c.in_ok-dir.dir, c.in_ok-dir.body)) number refl c.in_ok-dir.ensures.gives)

-- a body that is not empty is copied
pub returns-in_err-packet-clause-memory : goal.returns-in_err-packet-clause-memory
returns-in_err-packet-clause-memory c =
    let n = c.in_ok-number.number in
    let small = c.has_number.ensures.small c.if-not-has_number.false in
    let other = sym (c.has_number.ensures.value small) ∙ c.if-not-has_number.false in
    let number = number_read nid_raw n c.args.cur.now c.take.new.self refl other c.in_ok-number.ensures.exact in
    if_memory c.from_residual-in_err-packet.result (n, c.take.new.self, number, ((c.in_ok-dir.dir, c.in_ok-dir.body), c.scan_rest.new.cur, c.in_ok-dir.ensures.gives, c.in_err-packet.ensures.memory))
