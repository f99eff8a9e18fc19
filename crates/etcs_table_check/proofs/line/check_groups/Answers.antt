use Rattle.std.proofs.Common.{[], ◌++◌, ◌∷◌, ◌+◌, drop, subst}
use Rattle.std.proofs.lemmas.List.{drop_all}
use Rattle.etcs_table_check.proofs.FoldLemmas.{begins}
use Rattle.etcs_table_check.proofs.ReadLemmas.{all-taken, none-yet, read-ended, read-fails, read-more}
use Rattle.etcs_table_check.proofs.ShapeLemmas.{first-shaped, others-shaped}
use Rattle.etcs_table_check.specs.Line.{group_aspects}
use Rattle.etcs_table_check.specs.Shape.{AreShaped}
use Rattle.etcs_table_check.proofs.line.check_groups.Goals as goal

pub groups-init : goal.groups-init
groups-init c = record { taken = record { done = []; checked = c.new-checker.ensures; whole = none-yet _ }; shaped = c.requires }

-- the group is read, and the checker takes it
pub groups-preserved : goal.groups-preserved
groups-preserved c =
    let groups = c.args.groups.now in
    let i = c.groups.group-index in
    let g = c.group-item.result in
    let so = c.groups.invariant.taken in
    let begun = begins groups i g c.groups-test.true c.group-item.is in
    record {
      taken = record {
        done = so.done ++ c.in-Ok.controlled ∷ [];
        checked = c.in-Ok-group.ensures.ok so.done [] so.checked;
        whole = read-more group_aspects groups so.done i _ g c.in-Ok.controlled begun c.in-Ok.ensures so.whole;
      };
      shaped = others-shaped g (drop (i + 1) groups) (subst AreShaped begun c.groups.invariant.shaped);
    }

pub read_group-requires : goal.read_group-requires
read_group-requires c =
    let groups = c.args.groups.now in
    let i = c.groups.group-index in
    let g = c.group-item.result in
    first-shaped g (drop (i + 1) groups) (subst AreShaped (begins groups i g c.groups-test.true c.group-item.is) c.groups.invariant.shaped)

-- a balise of the group is refused
pub returns-in-Err-clause-err : goal.returns-in-Err-clause-err
returns-in-Err-clause-err c =
    let groups = c.args.groups.now in
    let i = c.groups.group-index in
    let g = c.group-item.result in
    read-fails group_aspects groups c.groups.invariant.taken.done i _ g c.in-Err.error (begins groups i g c.groups-test.true c.group-item.is) c.in-Err.ensures c.groups.invariant.taken.whole

-- the checker has taken all groups
pub returns-clause-ok : goal.returns-clause-ok
returns-clause-ok c =
    let groups = c.args.groups.now in
    let i = c.groups.group-index in
    let so = c.groups.invariant.taken in
    all-taken c.groups.checker so.done _ (read-ended group_aspects groups so.done i _ (drop_all i groups c.groups-test.false) so.whole) so.checked
