use Rattle.etcs_schema.proofs.WritingLemmas.{object_sent}
use Rattle.etcs_json.proofs.record.AnyObjectForm.write_object.Goals as goal

-- the members between braces
pub returns : goal.returns
returns g c =
    object_sent g.M.TokenWriter.adds g.met.M.TokenWriter.then g.T.Record.object c.args.self.now _ _ _ _ c.in_ok-token.ensures c.in_ok-write_members.ensures c.in_ok-token-2.ensures
