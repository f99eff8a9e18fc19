use Rattle.std.proofs.lemmas.Result.{err_from_is_err_and}
use Rattle.etcs_bits.specs.layout.Rows.{alone}
use Rattle.etcs_bits.proofs.SumLemmas.{chosen_read}
use Rattle.etcs_packet.proofs.ListLemmas.{of_memory}
use Rattle.etcs_radio.specs.Report.{report_numbered}
use Rattle.etcs_radio.specs.RawTrain.{copy_grows, others}
use Rattle.etcs_profile.specs.PacketNumbers.{nid_track as nid_train}
use Rattle.etcs_radio.specs.TrainPacket.{train_numbered}
use Rattle.etcs_radio.proofs.TrainLemmas.{raw_number, report_next, report_here, other_next}
use Rattle.etcs_radio.proofs.train_packet.TrainPacketLayout.scan.Goals as goal

pub returns-then-number-eq0-clause-gives : goal.returns-then-number-eq0-clause-gives
unfolding alone
returns-then-number-eq0-clause-gives c =
    let n = c.in_ok-number.number in
    report_here c.in_ok-report.report
    (chosen_read nid_train report_numbered train_numbered.next n c.args.cur.now c.scan_number.new.cur _ _ c.in_ok-number.ensures.gives (report_next n c.then-number-eq0.either) c.in_ok-report.ensures.gives)

-- none of the reports' numbers
pub returns-clause-gives : goal.returns-clause-gives
unfolding alone
returns-clause-gives c =
    let n = c.in_ok-number.number in
    let next = other_next n c.if-number-eq0.false c.if-number-eq1.false in
    chosen_read nid_train others train_numbered.next n c.args.cur.now c.scan_number.new.cur _ _ c.in_ok-number.ensures.gives next c.in_ok-scan_rest.ensures.gives

-- only a body that is kept as bits is copied
pub returns-in_err-scan_rest-clause-memory : goal.returns-in_err-scan_rest-clause-memory
returns-in_err-scan_rest-clause-memory c =
    let n = c.in_ok-number.number in
    let failed = err_from_is_err_and c.from_residual-in_err-scan_rest.result c.from_residual-in_err-scan_rest.ensures.1 in
    let number = raw_number n c.args.cur.now c.scan_number.new.cur c.if-number-eq0.false c.if-number-eq1.false c.in_ok-number.ensures.number.1 c.in_ok-number.ensures.gives in
    rw (failed.1, failed.2) (of_memory c.in_err-scan_rest.field-0.0 (λ (copies : copy_grows c.scan_number.new.cur). (n, c.scan_number.new.cur, number, copies)) c.in_err-scan_rest.ensures.memory)
