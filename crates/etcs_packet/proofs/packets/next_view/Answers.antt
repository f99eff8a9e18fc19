use Rattle.std.proofs.Common.{◌≡◌, false, refl}
use Rattle.std.proofs.lemmas.Result.{err_from_is_err_and}
use Rattle.etcs_bits.proofs.LayoutLemmas.{is_spelled, is_fault, none_begins}
use Rattle.etcs_packet.specs.Lists.{ends}
use Rattle.etcs_profile.specs.Track.{track_packet}
use Rattle.etcs_packet.proofs.ListLemmas.{due_fault, no_step}
use Rattle.etcs_packet.proofs.packets.next_view.Goals as goal

-- the fault of reading at the fork is that of the packet that is due
pub returns-in_err-view-clause-fault : goal.returns-in_err-view-clause-fault
returns-in_err-view-clause-fault c =
    let p = c.args.cur.now in
    let e = c.in_err-view.field-0.0 in
    let failed = err_from_is_err_and c.from_residual.result c.from_residual.ensures.1 in
    let goes : ends c.args.stop p ≡ false = cc (c.is_end.ensures.value, c.if-is_end.false) in
    let gives = rw c.fork-ahead.ensures.same at c.in_err-view.ensures.gives in
    rw (failed.1, failed.2) (due_fault e c.args.stop track_packet.fields p goes (is_fault e track_packet.fields p c.is_end.ensures.inside gives))

-- with a fault, neither a packet nor the end of the list stands here
pub returns-in_err-view-clause-none : goal.returns-in_err-view-clause-none
returns-in_err-view-clause-none c =
    let p = c.args.cur.now in
    let e = c.in_err-view.field-0.0 in
    let failed = err_from_is_err_and c.from_residual.result c.from_residual.ensures.1 in
    let goes : ends c.args.stop p ≡ false = cc (c.is_end.ensures.value, c.if-is_end.false) in
    let gives = rw c.fork-ahead.ensures.same at c.in_err-view.ensures.gives in
    let fault = is_fault e track_packet.fields p c.is_end.ensures.inside gives in
    let none = none_begins track_packet.rows e track_packet.fields p c.is_end.ensures.inside track_packet.laid.are_rows gives in
    rw (failed.1, failed.2) (no_step track_packet.rows e c.args.stop track_packet.fields p (refl, refl) c.is_end.ensures.inside goes fault none)

-- the packet that was read is spelled here
pub returns-clause-ok : goal.returns-clause-ok
returns-clause-ok c =
    let p = c.args.cur.now in
    let goes : ends c.args.stop p ≡ false = cc (c.is_end.ensures.value, c.if-is_end.false) in
    let read = rw c.fork-ahead.ensures.same at c.in_ok-view.ensures.gives in
    (read.0, read.1, (goes, is_spelled track_packet.fields (track_packet.rows read.0) p c.scan.new.cur c.is_end.ensures.inside read.2))

-- the fork stands where the cursor does
pub returns-in_err-view-clause-memory : goal.returns-in_err-view-clause-memory
returns-in_err-view-clause-memory c =
    let failed = err_from_is_err_and c.from_residual.result c.from_residual.ensures.1 in
    rw (failed.1, failed.2) (rw c.fork-ahead.ensures.same at c.in_err-view.ensures.memory)
