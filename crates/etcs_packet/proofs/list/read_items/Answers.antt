use Rattle.std.proofs.Common.{◌≡◌, ap, map, false, Some, None, Err, inr}
use Rattle.std.proofs.lemmas.Result.{err_from_is_err_and}
use Rattle.etcs_bits.specs.layout.Results.{OfFault}
use Rattle.etcs_packet.specs.Lists.{IsListFault, IsStep, Stand, ends}
use Rattle.etcs_packet.proofs.EndLemmas.{less_left}
use Rattle.etcs_packet.proofs.FollowLemmas.{follow_begins, follow_grows, follow_read, follow_within}
use Rattle.etcs_packet.proofs.ListLemmas.{of_memory, goes_on, no_error, none_before, over, same_error, list_fault, list_fails, none_of, stand_is_read}
use Rattle.etcs_profile.proofs.GrowthLemmas.{if_memory}
use Rattle.etcs_packet.proofs.list.read_items.Goals as goal

-- the fault of the next packet is that of the list, and then no list stands
pub returns-in_err-item-clause-none : goal.returns-in_err-item-clause-none
returns-in_err-item-clause-none g c =
    let failed = err_from_is_err_and c.from_residual.result c.from_residual.ensures.1 in
    let e = c.in_err-item.field-0.0 in
    let is_fault : OfFault e (λ f. IsListFault c.args.stop g.T.Layout.format.fields c.args.cur.now f) =
    list_fault g.T.Layout.format.rows e c.loop-found.found.items c.args.stop g.T.Layout.format.fields c.args.cur.now c.loop-found.ahead c.loop-found.invariant.follow c.in_err-item.ensures.fault in
    rw (failed.1, failed.2) (none_of g.T.Layout.format.rows e c.args.stop g.T.Layout.format.fields c.args.cur.now c.requires g.T.Layout.format.laid.are_rows c.loop-found.invariant.inside is_fault)

-- reading reports the fault of the item
pub returns-in_err-item-clause-exact : goal.returns-in_err-item-clause-exact
returns-in_err-item-clause-exact g c =
    let failed = err_from_is_err_and c.from_residual.result c.from_residual.ensures.1 in
    let e = c.in_err-item.field-0.0 in
    let is_fault : OfFault e (λ f. IsListFault c.args.stop g.T.Layout.format.fields c.args.cur.now f) =
    list_fault g.T.Layout.format.rows e c.loop-found.found.items c.args.stop g.T.Layout.format.fields c.args.cur.now c.loop-found.ahead c.loop-found.invariant.follow c.in_err-item.ensures.fault in
    rw (failed.1, failed.2) (list_fails g.T.Layout.format.of e c.args.stop g.T.Layout.format.fields c.args.cur.now c.requires c.loop-found.invariant.inside is_fault)

-- a packet has at least eight bits
pub loop-found-smaller : goal.loop-found-smaller
loop-found-smaller g c =
    let item = c.in-Some.item in
    let step : IsStep c.args.stop g.T.Layout.format.rows (Some item) c.loop-found.ahead c.next_item.new.cur = rw c.in-Some.is at c.in_ok-item.ensures.ok in
    let inside = follow_within c.args.stop g.T.Layout.format.fields (map g.T.Layout.format.rows c.loop-found.found.items) c.args.cur.now c.loop-found.ahead c.loop-found.invariant.inside c.loop-found.invariant.follow in
    less_left g.T.Layout.format.fields (g.T.Layout.format.rows item) c.loop-found.ahead c.next_item.new.cur c.requires inside (g.T.Layout.format.laid.are_rows item) step.1

-- the packet that was read follows those before it
pub loop-found-preserved : goal.loop-found-preserved
loop-found-preserved g c =
    let item = c.in-Some.item in
    let step : IsStep c.args.stop g.T.Layout.format.rows (Some item) c.loop-found.ahead c.next_item.new.cur = rw c.in-Some.is at c.in_ok-item.ensures.ok in
    record {
      inside = c.loop-found.invariant.inside;
      follow = rw c.in_ok-append.ensures.items (goes_on g.T.Layout.format.rows c.loop-found.found.items item c.args.stop g.T.Layout.format.fields c.args.cur.now c.loop-found.ahead c.next_item.new.cur c.loop-found.invariant.follow (g.T.Layout.format.laid.are_rows item) step);
    }

-- where none follows, the list ends
pub returns-clause-ok : goal.returns-clause-ok
returns-clause-ok g c =
    let step : IsStep c.args.stop g.T.Layout.format.rows None c.loop-found.ahead c.next_item.new.cur = rw c.in_default.is at c.in_ok-item.ensures.ok in
    over g.T.Layout.format.rows c.loop-found.found.items c.args.stop g.T.Layout.format.fields c.args.cur.now c.loop-found.ahead c.next_item.new.cur c.loop-found.invariant.follow step

-- a list that stands is what reading gives
pub returns-clause-exact : goal.returns-clause-exact
returns-clause-exact g c =
    let step : IsStep c.args.stop g.T.Layout.format.rows None c.loop-found.ahead c.next_item.new.cur = rw c.in_default.is at c.in_ok-item.ensures.ok in
    let stand : Stand c.args.stop g.T.Layout.format.rows c.loop-found.found.items c.args.cur.now c.next_item.new.cur =
    over g.T.Layout.format.rows c.loop-found.found.items c.args.stop g.T.Layout.format.fields c.args.cur.now c.loop-found.ahead c.next_item.new.cur c.loop-found.invariant.follow step in
    stand_is_read g.T.Layout.format.laid c.loop-found.found.items c.args.stop c.args.cur.now c.next_item.new.cur c.requires c.loop-found.invariant.inside stand

-- where no end can come, the first step reports it
pub returns-in_err-item-clause-no_end : goal.returns-in_err-item-clause-no_end
returns-in_err-item-clause-no_end g c = λ telegram few.
    let failed = err_from_is_err_and c.from_residual.result c.from_residual.ensures.1 in
    let here = none_before c.args.stop g.T.Layout.format.fields (map g.T.Layout.format.rows c.loop-found.found.items) c.args.cur.now c.loop-found.ahead c.requires c.loop-found.invariant.inside few c.loop-found.invariant.follow in
    rw (failed.1, failed.2) (ap Err (same_error _ _ (rw here at c.in_err-item.ensures.no_end telegram few)))

-- where no end can come, the first step gives no packet
pub returns-in_err-append-clause-no_end : goal.returns-in_err-append-clause-no_end
returns-in_err-append-clause-no_end g c = λ telegram few.
    let here = none_before c.args.stop g.T.Layout.format.fields (map g.T.Layout.format.rows c.loop-found.found.items) c.args.cur.now c.loop-found.ahead c.requires c.loop-found.invariant.inside few c.loop-found.invariant.follow in
    no_error _ _ (rw here at c.in_ok-item.ensures.no_end telegram few)

pub returns-clause-no_end : goal.returns-clause-no_end
returns-clause-no_end g c = λ telegram few.
    let here = none_before c.args.stop g.T.Layout.format.fields (map g.T.Layout.format.rows c.loop-found.found.items) c.args.cur.now c.loop-found.ahead c.requires c.loop-found.invariant.inside few c.loop-found.invariant.follow in
    no_error _ _ (rw here at c.in_ok-item.ensures.no_end telegram few)

-- memory is asked for only after a place where the list goes on
pub returns-in_err-item-clause-memory : goal.returns-in_err-item-clause-memory
returns-in_err-item-clause-memory g c =
    let failed = err_from_is_err_and c.from_residual.result c.from_residual.ensures.1 in
    let begins = follow_begins c.args.stop g.T.Layout.format.fields (map g.T.Layout.format.rows c.loop-found.found.items) c.args.cur.now c.loop-found.ahead c.loop-found.invariant.follow in
    rw (failed.1, failed.2) (of_memory c.in_err-item.field-0.0 (λ (due : (ends c.args.stop c.loop-found.ahead ≡ false) × g.T.Layout.grows c.loop-found.ahead). begins due.0) c.in_err-item.ensures.memory)

pub returns-in_err-append-clause-memory : goal.returns-in_err-append-clause-memory
returns-in_err-append-clause-memory g c =
    let step : IsStep c.args.stop g.T.Layout.format.rows (Some c.in-Some.item) c.loop-found.ahead c.next_item.new.cur = rw c.in-Some.is at c.in_ok-item.ensures.ok in
    let begins = follow_begins c.args.stop g.T.Layout.format.fields (map g.T.Layout.format.rows c.loop-found.found.items) c.args.cur.now c.loop-found.ahead c.loop-found.invariant.follow step.0 in
    if_memory c.from_residual-in_err-append.result begins

-- the first packet grows, or was read
pub returns-in_err-item-clause-first : goal.returns-in_err-item-clause-first
returns-in_err-item-clause-first g c =
    let failed = err_from_is_err_and c.from_residual.result c.from_residual.ensures.1 in
    let grows = follow_grows g.T.Layout.grows c.args.stop g.T.Layout.format.fields (map g.T.Layout.format.rows c.loop-found.found.items) c.args.cur.now c.loop-found.ahead c.loop-found.invariant.inside c.loop-found.invariant.follow in
    rw (failed.1, failed.2) (of_memory c.in_err-item.field-0.0 (λ (due : (ends c.args.stop c.loop-found.ahead ≡ false) × g.T.Layout.grows c.loop-found.ahead). grows due.1) c.in_err-item.ensures.memory)

pub returns-in_err-append-clause-first : goal.returns-in_err-append-clause-first
returns-in_err-append-clause-first g c =
    let step : IsStep c.args.stop g.T.Layout.format.rows (Some c.in-Some.item) c.loop-found.ahead c.next_item.new.cur = rw c.in-Some.is at c.in_ok-item.ensures.ok in
    let read = follow_read c.args.stop g.T.Layout.format.fields (map g.T.Layout.format.rows c.loop-found.found.items) (g.T.Layout.format.rows c.in-Some.item) c.args.cur.now c.loop-found.ahead c.next_item.new.cur c.loop-found.invariant.inside c.loop-found.invariant.follow (g.T.Layout.format.laid.are_rows c.in-Some.item) step.1 in
    if_memory c.from_residual-in_err-append.result (inr read)
