use Rattle.std.specs.Prelude.{codes}
use Rattle.serde_json.specs.Data.{string}
use Rattle.etcs_schema.specs.Writing.{AddsMembers}
use Rattle.etcs_schema.proofs.WritingLemmas.{member_sent}
use Rattle.etcs_json.proofs.packets.body_text.write_text.Goals as goal

-- the key, and then the text
pub returns : goal.returns
unfolding AddsMembers
returns g c = member_sent g.M.TokenWriter.adds g.met.M.TokenWriter.then (codes "body") (string c.args.text.now) _ _ _ c.in_ok-token.ensures c.in_ok-token-2.ensures
