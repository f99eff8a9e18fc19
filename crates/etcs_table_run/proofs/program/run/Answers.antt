use Rattle.std.proofs.Common.{◌≡◌, ◌<◌, ◌≤◌, ◌∙◌, length, sym, ap, rules}
use Rattle.etcs_run.proofs.RunLemmas.{Ran-as, Ran-known, Ran-unread}
use Rattle.etcs_table_run.proofs.TableLemmas.{more_words, no_more_words}
use Rattle.etcs_table_run.specs.TableOutput.{of_headings, program_output, table_output, usage}
use Rattle.etcs_table_run.proofs.program.run.Goals as goal

-- there are words after the program's name
pub returns-then-words-gt1-clause-ran : goal.returns-then-words-gt1-clause-ran
unfolding program_output
returns-then-words-gt1-clause-ran g c =
    let more : 1 < length c.args.words.now = search rules in
    let line : c.as_bytes.result.now ≡ usage = search rules in
    Ran-as (λ s. ap (λ o. of_headings o s) (more_words c.args.words.now more)) (Ran-unread (rw line at c.write_out.ensures.writes))

pub returns-then-words-gt1-clause-known : goal.returns-then-words-gt1-clause-known
returns-then-words-gt1-clause-known g c = Ran-known _ (returns-then-words-gt1-clause-ran g c)

-- there are none
pub returns-clause-ran : goal.returns-clause-ran
unfolding program_output
returns-clause-ran g c =
    let few : length c.args.words.now ≤ 1 = search rules in
    Ran-as (λ s. ap (λ o. of_headings o s) (no_more_words c.args.words.now few) ∙ ap (λ h. table_output h s) (sym c.usual.ensures)) c.check_input.ensures.ran

pub returns-clause-known : goal.returns-clause-known
returns-clause-known g c = Ran-known _ (returns-clause-ran g c)
