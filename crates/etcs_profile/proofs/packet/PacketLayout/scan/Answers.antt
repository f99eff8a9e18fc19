use Rattle.etcs_profile.specs.Growth.{rest_grows}
use Rattle.etcs_profile.proofs.GrowthLemmas.{memory_follows}
use Rattle.etcs_profile.proofs.packet.PacketLayout.scan.Goals as goal

-- the number was read, and what follows it grows
pub returns-clause-memory : goal.returns-clause-memory
returns-clause-memory g c =
    memory_follows c.scan_rest.result (λ (grows : rest_grows g.T.Layout.grows c.scan.new.cur). (_, _, c.in_ok-_number.ensures.gives, grows)) c.scan_rest.ensures.memory
