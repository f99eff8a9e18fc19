use Rattle.std.proofs.Common.{rules}
use Rattle.etcs_schema.proofs.WritingLemmas.{each_more}
use Rattle.etcs_json.proofs.members.write_items.Goals as goal

-- nothing is written yet
pub items-init : goal.items-init
items-init g c = g.met.M.TokenWriter.none _

-- one item more is written
pub items-preserved : goal.items-preserved
items-preserved g c =
    each_more g.M.TokenWriter.adds g.met.M.TokenWriter.then g.T.Form.codec.to _ _ _ _ _ _ (search rules) c.item-item.is c.items.invariant c.in_ok-write_json.ensures
