use Rattle.etcs_run.proofs.FormLemmas.{form_refused}
use Rattle.etcs_run.proofs.form_lines.record_of.Goals as goal

-- the form's first fault, in words
pub returns-in_default-clause-gives : goal.returns-in_default-clause-gives
returns-in_default-clause-gives g c =
    form_refused c.in-Err.why (g.T.Encoded.form.of (g.V.JsonTree.value c.args.tree.now)) c.in_default.not-Memory c.in-Err.ensures.gives
