use Rattle.std.proofs.Common.{sym, ap, ◌∙◌}
use Rattle.std.specs.List.{list_any}
use Rattle.etcs_group.specs.Places.{pointed}
use Rattle.etcs_group.proofs.PointedLemmas.{at-pointed, take-pointed}
use Rattle.etcs_group.proofs.StepLemmas.{on_err, packets_more, packets_same, packets_some}
use Rattle.etcs_group.proofs.assembly.packets.Goals as goal
use Rattle.etcs_group.proofs.assembly.packets.Goals.{then-not-is_named_before+in_ok-push_held, else-not-is_named_before}

-- The telegram adds its packets, or none if an earlier one added them.
pub telegrams-preserved : goal.telegrams-preserved
telegrams-preserved c =
    let at = at-pointed c.args.read.now c.telegrams.place c.index-read-place.result c.telegrams-test.true c.index-read-place.is in
    elim c.if-not-is_named_before.branch [
      | then-not-is_named_before+in_ok-push_held w ↦ packets_more c.args.run (pointed c.args.read.now) c.telegrams.place c.index-read-place.result.now (pointed c.telegrams.packets.items) _ _ at c.telegrams.invariant (ap (list_any _) (take-pointed c.telegrams.place c.args.read.now) ∙ sym w.if-not-is_named_before.ensures) (rw w.packets-is w.in_ok-push_held.ensures.ok)
      | else-not-is_named_before w ↦ rw w.packets-is (packets_same c.args.run (pointed c.args.read.now) c.telegrams.place c.index-read-place.result.now (pointed c.telegrams.packets.items) _ at c.telegrams.invariant (ap (list_any _) (take-pointed c.telegrams.place c.args.read.now) ∙ sym w.if-not-is_named_before.ensures))
    ]

-- The telegram is not silent, and has packets.
pub returns-in_err-push_held-clause-memory : goal.returns-in_err-push_held-clause-memory
returns-in_err-push_held-clause-memory c =
    let at = at-pointed c.args.read.now c.telegrams.place c.index-read-place.result c.telegrams-test.true c.index-read-place.is in
    on_err _ _ (packets_some c.args.run (pointed c.args.read.now) c.telegrams.place c.index-read-place.result.now (pointed c.telegrams.packets.items) _ at c.telegrams.invariant
    (ap (list_any _) (take-pointed c.telegrams.place c.args.read.now) ∙ sym c.if-not-is_named_before.ensures) c.in_err-push_held.ensures.memory)
