use Rattle.etcs_schema.specs.lemmas.AppendLemmas.{written_then}
use Rattle.etcs_schema.proofs.WritingLemmas.{sent_as}
use Rattle.etcs_json.specs.ReportWriting.{first_members, last_members, written_members}
use Rattle.etcs_json.proofs.SumLemmas.{report_sent}
use Rattle.etcs_json.proofs.packets.report_form.ReportObjectForm.write_object.Goals as goal

-- the members between braces
pub returns : goal.returns
returns g c =
    let x = c.args.self.now in
    let members = written_then g.M.TokenWriter.adds g.met.M.TokenWriter.then (first_members x) (last_members x) _ _ _ c.in_ok-write_first.ensures c.in_ok-write_last.ensures in
    sent_as g.M.TokenWriter.adds g.met.M.TokenWriter.then (written_members x) _ _ _ _ _ (report_sent x) c.in_ok-token.ensures members c.in_ok-token-2.ensures
