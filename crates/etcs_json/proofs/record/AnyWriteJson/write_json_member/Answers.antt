use Rattle.etcs_schema.proofs.WritingLemmas.{member_sent}
use Rattle.etcs_json.proofs.record.AnyWriteJson.write_json_member.Goals as goal

-- the key, and then the object
pub returns : goal.returns
returns g c = member_sent g.M.TokenWriter.adds g.met.M.TokenWriter.then c.args.name.now (g.T.ObjectForm.form.to c.args.self.now) _ _ _ c.in_ok-token.ensures c.in_ok-write_object.ensures
