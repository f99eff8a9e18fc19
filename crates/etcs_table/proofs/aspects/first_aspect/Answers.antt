use Rattle.std.proofs.Common.{◌∙◌, sym, ap, ◌||◌}
use Rattle.std.specs.List.{filter}
use Rattle.etcs_table.specs.Groups.{is_every, of_aspect}
use Rattle.etcs_table.specs.Pointed.{pointed}
use Rattle.etcs_table.specs.Text.{same_text}
use Rattle.etcs_table.proofs.LoopLemmas.{filter-pushed, filter-same, front, value, whole}
use Rattle.etcs_table.proofs.GroupLemmas.{first_aspect-is}
use Rattle.etcs_table.proofs.aspects.first_aspect.Goals as goal
use Rattle.etcs_table.proofs.aspects.first_aspect.Goals.{then-is_of+in_ok-push, else-is_of}

pub loop-e-preserved : goal.loop-e-preserved
loop-e-preserved c =
    let rows = c.args.rows.now in
    let name = c.first_name-name.result.now in
    elim c.if-is_of.branch [
      | then-is_of+in_ok-push w ↦ rw (w.first-is, w.in_ok-push.ensures.items) (filter-pushed (λ e. same_text e.aspect name || is_every e) rows c.loop-e.first.items c.loop-e.e-index c.e-item.result c.loop-e-test.true c.e-item.is (sym w.if-is_of.ensures) c.loop-e.invariant)
      | else-is_of w ↦ rw w.first-is (filter-same (λ e. same_text e.aspect name || is_every e) (pointed rows) (pointed c.loop-e.first.items) c.loop-e.e-index c.e-item.result.now (front value rows c.loop-e.e-index c.e-item.result c.loop-e-test.true c.e-item.is) (sym w.if-is_of.ensures) c.loop-e.invariant)
    ]

pub returns : goal.returns
returns c =
    let rows = c.args.rows.now in
    let name = c.first_name-name.result.now in
    c.loop-e.invariant
    ∙ ap (filter (λ e. same_text e.aspect name || is_every e)) (whole value rows c.loop-e.e-index c.loop-e-test.false)
    ∙ ap (of_aspect (pointed rows)) c.first_name-name.ensures
    ∙ sym (first_aspect-is (pointed rows))
