use Rattle.std.proofs.Common.{rules}
use Rattle.std.specs.Prelude.{codes}
use Rattle.etcs_schema.specs.Reading.{required_member}
use Rattle.etcs_schema.specs.Codec.{decoded_pair, first_and_others}
use Rattle.etcs_schema.specs.Variables.{direction, scale}
use Rattle.etcs_json.proofs.ReadLemmas.{both_read, first_and_read}
use Rattle.etcs_json.proofs.packets.track_form.read_profile.Goals as goal

-- the list that was read is no longer than it may be, and each element of it fits
pub packet_of-requires : goal.packet_of-requires
packet_of-requires g c =
    let d = g.N.JsonValue.value c.args.node.now in
    let list = required_member (first_and_others g.T.Form.codec.of 32) c.args.name.now in
    let scaled = required_member scale.of (codes "q_scale") in
    let first = both_read (required_member direction.of (codes "q_dir")) (decoded_pair scaled list) d _ (rw (← c.found.view_is) at c.in_ok-found.ensures) in
    (search rules, first_and_read g.T.Layout.fit g.T.Form.codec 32 c.args.name.now d _ c.requires (both_read scaled list d _ first.1).1)

pub returns : goal.returns
returns g c =
    let d = g.N.JsonValue.value c.args.node.now in
    let list = required_member (first_and_others g.T.Form.codec.of 32) c.args.name.now in
    let scaled = required_member scale.of (codes "q_scale") in
    let first = both_read (required_member direction.of (codes "q_dir")) (decoded_pair scaled list) d _ (rw (← c.found.view_is) at c.in_ok-found.ensures) in
    let second = both_read scaled list d _ first.1 in
    rw (first.0, second.0, second.1) c.packet_of.ensures.gives
