use Rattle.std.proofs.Common.{◌≡◌, ◌+◌, ◌<◌, ℕ, ap, arith, false, length, ◌∙◌}
use Rattle.std.proofs.lemmas.Result.{err_from_is_err_and}
use Rattle.etcs_bits.specs.declared.layout.fault.DecodeError.TheVariants as errors
use Rattle.etcs_bits.specs.declared.layout.fault.FaultKind.TheVariants.{NoEnd}
use Rattle.etcs_packet.specs.Lists.{ends}
use Rattle.etcs_packet.proofs.EndLemmas.{no_end_here}
use Rattle.etcs_packet.proofs.ListLemmas.{lacks_step, no_step, of_memory}
use Rattle.etcs_packet.proofs.list.next_item.Goals as goal

-- the fault of the packet that is due lies past the eight bits that show that the list goes on
pub returns-in_err-item-clause-none : goal.returns-in_err-item-clause-none
returns-in_err-item-clause-none g c =
    let failed = err_from_is_err_and c.from_residual.result c.from_residual.ensures.1 in
    let goes : ends c.args.stop c.args.cur.now ≡ false = cc (c.is_end.ensures.value, c.if-is_end.false) in
    rw (failed.1, failed.2) (no_step g.T.Layout.format.rows c.in_err-item.field-0.0 c.args.stop g.T.Layout.format.fields c.args.cur.now c.requires c.is_end.ensures.inside goes c.in_err-item.ensures.fault c.in_err-item.ensures.none)

-- fewer than eight bits are a NoEnd fault
pub returns-then-left-lt8-clause-fault : goal.returns-then-left-lt8-clause-fault
returns-then-left-lt8-clause-fault g c =
    let p = c.args.cur.now in
    let goes : ends c.args.stop p ≡ false = cc (c.is_end.ensures.value, c.if-is_end.false) in
    let few : length p.bits < p.at + 8 = omega (arith, c.left.ensures, c.if-left-lt8.true) in
    let is = c.refused.ensures ∙ ap (λ (at : ℕ). errors.Fault (record { at = at; end = p.at; why = NoEnd })) c.at.ensures.place in
    rw is (goes, no_end_here g.T.Layout.format.fields p c.requires few)

-- with fewer than eight bits, neither a packet nor the end of the list stands here
pub returns-then-left-lt8-clause-none : goal.returns-then-left-lt8-clause-none
returns-then-left-lt8-clause-none g c =
    let p = c.args.cur.now in
    let goes : ends c.args.stop p ≡ false = cc (c.is_end.ensures.value, c.if-is_end.false) in
    let few : length p.bits < p.at + 8 = omega (arith, c.left.ensures, c.if-left-lt8.true) in
    let is = c.refused.ensures ∙ ap (λ (at : ℕ). errors.Fault (record { at = at; end = p.at; why = NoEnd })) c.at.ensures.place in
    rw is (lacks_step g.T.Layout.format.laid c.args.stop p c.requires c.is_end.ensures.inside goes few)

-- the packet that is due takes memory
pub returns-in_err-item-clause-memory : goal.returns-in_err-item-clause-memory
returns-in_err-item-clause-memory g c =
    let failed = err_from_is_err_and c.from_residual.result c.from_residual.ensures.1 in
    let goes : ends c.args.stop c.args.cur.now ≡ false = cc (c.is_end.ensures.value, c.if-is_end.false) in
    rw (failed.1, failed.2) (of_memory c.in_err-item.field-0.0 (λ (grows : g.T.Layout.grows c.args.cur.now). (goes, grows)) c.in_err-item.ensures.memory)
