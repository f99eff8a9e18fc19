use Rattle.std.proofs.lemmas.Result.{on_ok_weaker}
use Rattle.etcs_schema.specs.Fault.{error_fault}
use Rattle.etcs_findings.proofs.RefusalLemmas.{form_added}
use Rattle.etcs_findings.proofs.refusal.put_fault.Goals as goal

-- the fault of a form is a fault of the document
pub returns-in-Form : goal.returns-in-Form
returns-in-Form c =
    rw c.in-Form.is
    (on_ok_weaker c.put_form_fault.result (form_added (error_fault c.in-Form.why) c.args.out.now c.put_form_fault.new.out) c.put_form_fault.ensures)
