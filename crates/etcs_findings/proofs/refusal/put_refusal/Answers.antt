use Rattle.std.proofs.lemmas.Result.{on_ok_weaker}
use Rattle.etcs_findings.specs.Refusals.{fault_of}
use Rattle.etcs_findings.proofs.RefusalLemmas.{makes_refusal}
use Rattle.etcs_findings.proofs.refusal.put_refusal.Goals as goal

-- the verdict and the fault, between the brackets of an object
pub returns : goal.returns
returns c =
    on_ok_weaker c.token-2.result
    (makes_refusal (fault_of c.args.why.now) c.args.out.now c.token.new.self c.put_text.new.out c.put_fault.new.out c.token-2.new.self
    c.in_ok-token.ensures.ok c.in_ok-put_text.ensures c.in_ok-put_fault.ensures) c.token-2.ensures.ok
