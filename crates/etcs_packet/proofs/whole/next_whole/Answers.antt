use Rattle.std.proofs.Common.{◌≤◌, ap, length, Err}
use Rattle.std.proofs.lemmas.Result.{err_from_is_err_and}
use Rattle.etcs_bits.specs.layout.Rows.{IsSpelled}
use Rattle.etcs_bits.specs.layout.Fault.{IsFault}
use Rattle.etcs_bits.specs.layout.Results.{OfFault}
use Rattle.etcs_packet.specs.Whole.{HeadAndListStand}
use Rattle.etcs_packet.proofs.ListLemmas.{of_memory, same_error}
use Rattle.etcs_packet.proofs.WholeLemmas.{head_fault, followed, head_stands, head_fault_is_reported, later_fault, whole_fails, whole_is_read, none_of_whole}
use Rattle.etcs_packet.proofs.whole.next_whole.Goals as goal

-- the fault of the head is that of the whole
pub returns-in_err-head-clause-exact : goal.returns-in_err-head-clause-exact
returns-in_err-head-clause-exact g c =
    let failed = err_from_is_err_and c.from_residual.result c.from_residual.ensures.1 in
    let e = c.in_err-head.field-0.0 in
    let inside : c.args.cur.now.at ≤ length c.args.cur.now.bits = rw c.fork-ahead.ensures.same at c.fork-ahead.ensures.inside in
    let is_fault : OfFault e (λ f. IsFault g.H.Layout.format.fields c.args.cur.now f) = rw c.fork-ahead.ensures.same at c.in_err-head.ensures.fault in
    rw (failed.1, failed.2) (whole_fails g.H.Layout.format.of g.T.Layout.format.of e c.args.stop g.H.Layout.format.fields g.T.Layout.format.fields c.args.cur.now c.requires inside (head_fault e c.args.stop g.H.Layout.format.fields g.T.Layout.format.fields c.args.cur.now is_fault))

-- where a head stands, the fault of the list is that of the whole, and then no whole stands
pub returns-in_err-items-clause-none : goal.returns-in_err-items-clause-none
returns-in_err-items-clause-none g c =
    let failed = err_from_is_err_and c.from_residual-in_err-items.result c.from_residual-in_err-items.ensures.1 in
    let e = c.in_err-items.field-0.0 in
    let head = c.in_ok-head.head in
    let inside : c.args.cur.now.at ≤ length c.args.cur.now.bits = rw c.fork-ahead.ensures.same at c.fork-ahead.ensures.inside in
    let spelled : IsSpelled (g.H.Layout.format.rows head) c.args.cur.now c.read.new.cur = rw c.fork-ahead.ensures.same at c.in_ok-head.ensures.ok in
    let is_fault = later_fault e c.args.stop g.H.Layout.format.fields g.T.Layout.format.fields (g.H.Layout.format.rows head) c.args.cur.now c.read.new.cur (g.H.Layout.format.laid.are_rows head) spelled c.in_err-items.ensures.fault in
    rw (failed.1, failed.2) (none_of_whole g.H.Layout.format.laid g.T.Layout.format.laid e c.args.stop c.args.cur.now c.requires inside is_fault)

-- reading reports the fault of the list
pub returns-in_err-items-clause-exact : goal.returns-in_err-items-clause-exact
returns-in_err-items-clause-exact g c =
    let failed = err_from_is_err_and c.from_residual-in_err-items.result c.from_residual-in_err-items.ensures.1 in
    let e = c.in_err-items.field-0.0 in
    let head = c.in_ok-head.head in
    let inside : c.args.cur.now.at ≤ length c.args.cur.now.bits = rw c.fork-ahead.ensures.same at c.fork-ahead.ensures.inside in
    let spelled : IsSpelled (g.H.Layout.format.rows head) c.args.cur.now c.read.new.cur = rw c.fork-ahead.ensures.same at c.in_ok-head.ensures.ok in
    let is_fault = later_fault e c.args.stop g.H.Layout.format.fields g.T.Layout.format.fields (g.H.Layout.format.rows head) c.args.cur.now c.read.new.cur (g.H.Layout.format.laid.are_rows head) spelled c.in_err-items.ensures.fault in
    rw (failed.1, failed.2) (whole_fails g.H.Layout.format.of g.T.Layout.format.of e c.args.stop g.H.Layout.format.fields g.T.Layout.format.fields c.args.cur.now c.requires inside is_fault)

-- a whole that stands is what reading gives
pub returns-clause-exact : goal.returns-clause-exact
returns-clause-exact g c =
    let head = c.in_ok-head.head in
    let inside : c.args.cur.now.at ≤ length c.args.cur.now.bits = rw c.fork-ahead.ensures.same at c.fork-ahead.ensures.inside in
    let spelled : IsSpelled (g.H.Layout.format.rows head) c.args.cur.now c.read.new.cur = rw c.fork-ahead.ensures.same at c.in_ok-head.ensures.ok in
    let whole : HeadAndListStand c.args.stop g.H.Layout.format.rows g.T.Layout.format.rows head c.in_ok-items.items.items c.args.cur.now c.read_items.new.cur = record { middle = c.read.new.cur; first = spelled; items = c.in_ok-items.ensures.ok } in
    whole_is_read g.H.Layout.format.laid g.T.Layout.format.laid c.args.stop head c.in_ok-items.items.items c.args.cur.now c.read_items.new.cur c.requires inside whole

-- where reading the head takes no memory, the head's fault is the result
pub returns-in_err-head-clause-head : goal.returns-in_err-head-clause-head
returns-in_err-head-clause-head g c = λ none f fault.
    let failed = err_from_is_err_and c.from_residual.result c.from_residual.ensures.1 in
    let e = c.in_err-head.field-0.0 in
    let inside : c.args.cur.now.at ≤ length c.args.cur.now.bits = rw c.fork-ahead.ensures.same at c.fork-ahead.ensures.inside in
    let is_fault : OfFault e (λ h. IsFault g.H.Layout.format.fields c.args.cur.now h) = rw c.fork-ahead.ensures.same at c.in_err-head.ensures.fault in
    rw (failed.1, failed.2) (ap Err (head_fault_is_reported e (g.H.Layout.grows c.args.cur.now) g.H.Layout.format.fields c.args.cur.now f inside is_fault (rw c.fork-ahead.ensures.same at c.in_err-head.ensures.memory) none fault))

-- where a head stands, it has no fault
pub returns-in_err-items-clause-head : goal.returns-in_err-items-clause-head
returns-in_err-items-clause-head g c = λ none f fault.
    let inside : c.args.cur.now.at ≤ length c.args.cur.now.bits = rw c.fork-ahead.ensures.same at c.fork-ahead.ensures.inside in
    let spelled : IsSpelled (g.H.Layout.format.rows c.in_ok-head.head) c.args.cur.now c.read.new.cur = rw c.fork-ahead.ensures.same at c.in_ok-head.ensures.ok in
    absurd (head_stands g.H.Layout.format.fields g.H.Layout.format.rows c.in_ok-head.head c.args.cur.now c.read.new.cur f inside g.H.Layout.format.laid.are_rows spelled fault)

pub returns-clause-head : goal.returns-clause-head
returns-clause-head g c = λ none f fault.
    let inside : c.args.cur.now.at ≤ length c.args.cur.now.bits = rw c.fork-ahead.ensures.same at c.fork-ahead.ensures.inside in
    let spelled : IsSpelled (g.H.Layout.format.rows c.in_ok-head.head) c.args.cur.now c.read.new.cur = rw c.fork-ahead.ensures.same at c.in_ok-head.ensures.ok in
    absurd (head_stands g.H.Layout.format.fields g.H.Layout.format.rows c.in_ok-head.head c.args.cur.now c.read.new.cur f inside g.H.Layout.format.laid.are_rows spelled fault)

-- where reading the head takes no memory, only the packets after it do
pub returns-in_err-head-clause-memory : goal.returns-in_err-head-clause-memory
returns-in_err-head-clause-memory g c = λ none.
    let failed = err_from_is_err_and c.from_residual.result c.from_residual.ensures.1 in
    rw (failed.1, failed.2) (of_memory c.in_err-head.field-0.0 (λ (grows : g.H.Layout.grows c.args.cur.now). absurd (none grows)) (rw c.fork-ahead.ensures.same at c.in_err-head.ensures.memory))

pub returns-in_err-items-clause-memory : goal.returns-in_err-items-clause-memory
returns-in_err-items-clause-memory g c = λ none.
    let failed = err_from_is_err_and c.from_residual-in_err-items.result c.from_residual-in_err-items.ensures.1 in
    let spelled : IsSpelled (g.H.Layout.format.rows c.in_ok-head.head) c.args.cur.now c.read.new.cur = rw c.fork-ahead.ensures.same at c.in_ok-head.ensures.ok in
    let e = c.in_err-items.field-0.0 in
    rw (failed.1, failed.2) (followed g.H.Layout.format.rows c.in_ok-head.head e c.args.stop c.args.cur.now c.read.new.cur spelled (λ telegram few. same_error _ _ (c.in_err-items.ensures.no_end telegram few)) c.in_err-items.ensures.memory)
