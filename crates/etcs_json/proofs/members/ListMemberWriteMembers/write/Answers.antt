use Rattle.etcs_schema.proofs.WritingLemmas.{array_sent}
use Rattle.etcs_json.proofs.members.ListMemberWriteMembers.write.Goals as goal

-- the key, and the items between brackets
pub returns : goal.returns
returns g c =
    array_sent g.M.TokenWriter.adds g.met.M.TokenWriter.then g.T.Form.codec.to c.args.self.now.0.now c.args.self.now.1.now _ _ _ _ _ c.in_ok-token.ensures c.in_ok-token-2.ensures
    c.in_ok-write_items.ensures c.in_ok-token-3.ensures
