use Rattle.std.proofs.Common.{◌++◌, ap, refl, rules, subst, sym, ◌∙◌}
use Rattle.etcs_check.specs.LineChecker.{HasChecked}
use Rattle.etcs_check.proofs.CheckerLemmas.{message_taken}
use Rattle.etcs_check.proofs.LineLemmas.{found_alone}
use Rattle.etcs_check.proofs.line_checker.LineChecker.message.Goals as goal

-- The findings of this message were appended.
pub returns-clause-ok : goal.returns-clause-ok
returns-clause-ok c = λ gs ms was.
    message_taken _ _ c.args.message.now (c.in_ok-append.ensures.ok ∙ ap (λ l. c.self.inside.about_messages.items ++ l) c.in_ok-found.ensures.ok) refl (search rules) refl (λ n. refl) gs ms (subst (λ k. HasChecked k gs ms) (sym c.self.view_is) was)

-- The call allocated for a finding of this message.
pub returns-in_err-found-clause-memory : goal.returns-in_err-found-clause-memory
returns-in_err-found-clause-memory c = λ _. found_alone c.self.inside.messages c.args.message.now c.in_err-found.ensures.memory

-- The call allocated to append the findings of this message.
pub returns-in_err-append-clause-memory : goal.returns-in_err-append-clause-memory
returns-in_err-append-clause-memory c = λ _. found_alone c.self.inside.messages c.args.message.now (λ none.
    c.in_err-append.ensures.memory.1 (c.in_ok-found.ensures.ok ∙ none))
