use Rattle.std.proofs.Common.{ap₂, filter, sym, ◌∙◌}
use Rattle.std.specs.Cmp.Lexicographic.{pointwise}
use Rattle.etcs_profile.specs.Track.{holds}
use Rattle.etcs_group.specs.Packets.{held_packets}
use Rattle.etcs_check.specs.Duplicates.{same_packet}
use Rattle.etcs_check.proofs.NumberLemmas.{Decides-same_packets}
use Rattle.etcs_check.proofs.duplicates.same_packets.Goals as goal

-- The numbers of two lists of packets are equal if and only if the lists are.
pub returns : goal.returns
returns c =
    let d = Decides-same_packets (held_packets c.args.run c.args.this.now) (held_packets c.args.run c.args.that.now) in
    let same = c.same_lists.ensures ∙ ap₂ (λ xs ys. pointwise same_packet (filter (holds c.args.run) xs) (filter (holds c.args.run) ys)) c.packets.ensures c.packets-2.ensures in
    (λ e. d.0 (sym same ∙ e), λ e. same ∙ d.1 e)
