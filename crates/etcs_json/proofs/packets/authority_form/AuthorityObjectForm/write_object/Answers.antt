use Rattle.etcs_json.specs.AuthorityWriting.{written_members}
use Rattle.etcs_schema.proofs.WritingLemmas.{sent_as}
use Rattle.etcs_json.proofs.SumLemmas.{authority_sent}
use Rattle.etcs_json.proofs.packets.authority_form.AuthorityObjectForm.write_object.Goals as goal

-- the members between braces
pub returns : goal.returns
returns g c =
    let x = c.args.self.now in
    sent_as g.M.TokenWriter.adds g.met.M.TokenWriter.then (written_members x) _ _ _ _ _ (authority_sent x) c.in_ok-token.ensures c.in_ok-write_authority.ensures c.in_ok-token-2.ensures
