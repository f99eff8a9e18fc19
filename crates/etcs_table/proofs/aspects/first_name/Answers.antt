use Rattle.std.proofs.Common.{◌∙◌, sym, ap, not}
use Rattle.std.specs.List.{find}
use Rattle.etcs_table.specs.Groups.{is_every}
use Rattle.etcs_table.specs.Pointed.{pointed}
use Rattle.etcs_table.proofs.LoopLemmas.{ended, find-ended, find-found, find-passed, rest, value}
use Rattle.etcs_table.proofs.GroupLemmas.{first_name-find, name_at}
use Rattle.etcs_table.proofs.aspects.first_name.Goals as goal

pub returns-then-not-is_every : goal.returns-then-not-is_every
returns-then-not-is_every c =
    let rows = c.args.rows.now in
    c.aspect.ensures
    ∙ ap name_at (find-found (λ e. not (is_every e)) (pointed rows) c.loop-e.e-index c.e-item.result.now (find (λ e. not (is_every e)) (pointed rows)) (rest value rows c.loop-e.e-index c.e-item.result c.loop-e-test.true c.e-item.is) (ap not (sym c.if-not-is_every.ensures)) c.loop-e.invariant) ∙ sym (first_name-find (pointed rows))

pub loop-e-preserved : goal.loop-e-preserved
loop-e-preserved c =
    let rows = c.args.rows.now in
    find-passed (λ e. not (is_every e)) (pointed rows) c.loop-e.e-index c.e-item.result.now (find (λ e. not (is_every e)) (pointed rows)) (rest value rows c.loop-e.e-index c.e-item.result c.loop-e-test.true c.e-item.is) (ap not (sym c.if-not-is_every.ensures)) c.loop-e.invariant

pub returns : goal.returns
returns c =
    let rows = c.args.rows.now in
    ap name_at (find-ended (λ e. not (is_every e)) (pointed rows) c.loop-e.e-index (find (λ e. not (is_every e)) (pointed rows)) (ended value rows c.loop-e.e-index c.loop-e-test.false) c.loop-e.invariant) ∙ sym (first_name-find (pointed rows))
