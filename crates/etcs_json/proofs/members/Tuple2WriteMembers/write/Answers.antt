use Rattle.etcs_schema.specs.lemmas.AppendLemmas.{written_then}
use Rattle.etcs_json.proofs.members.Tuple2WriteMembers.write.Goals as goal

-- the first members, and then the others
pub returns : goal.returns
returns g c =
    let m = c.args.self.now in
    written_then g.M.TokenWriter.adds g.met.M.TokenWriter.then (g.A.WriteMembers.entries m.0) (g.B.WriteMembers.entries m.1) _ _ _ c.in_ok-write.ensures c.in_ok-write-2.ensures
