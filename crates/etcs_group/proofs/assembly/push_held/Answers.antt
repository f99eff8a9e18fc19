use Rattle.std.proofs.Common.{◌≡◌, sym, ap, ◌∙◌, Some}
use Rattle.std.proofs.lemmas.Option.{slice_get-get_or}
use Rattle.etcs_profile.specs.Track.{holds}
use Rattle.etcs_telegram.specs.Record.{Telegram}
use Rattle.etcs_group.specs.Places.{At}
use Rattle.etcs_group.proofs.StepLemmas.{on_err, filter-some}
use Rattle.etcs_group.proofs.assembly.push_held.Goals as goal

-- The packet that is to be pushed holds.
pub returns-in_err-push-clause-memory : goal.returns-in_err-push-clause-memory
returns-in_err-push-clause-memory c =
    let packets : c.deref-packet-items.result.now ≡ c.args.telegram.now.packets = c.deref-packet-items.ensures.value ∙ ap (λ (t : Telegram). t.packets) c.telegram.view_is in
    let at : At c.deref-packet-items.result.now c.packets.packet-index c.packet-item.result = slice_get-get_or _ c.packets.packet-index c.packet-item.result c.packets-test.true ∙ ap Some (sym c.packet-item.is) in
    on_err _ _ (filter-some (holds c.args.run) c.args.telegram.now.packets c.packets.packet-index c.packet-item.result (rw packets at at) (sym c.if-holds_in.ensures))
