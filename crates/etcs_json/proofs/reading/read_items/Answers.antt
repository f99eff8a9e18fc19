use Rattle.std.proofs.Common.{◌≡◌, arith, length, rules}
use Rattle.etcs_schema.proofs.ListLemmas.{all_read, front_none, item_fails, item_read}
use Rattle.etcs_json.proofs.reading.read_items.Goals as goal

pub items-init : goal.items-init
items-init g c = front_none g.T.Form.codec.of (g.N.JsonValue.rest c.args.items) _ c.new-found.ensures.items

-- the fault is at the first item that is not read
pub returns-in-Err : goal.returns-in-Err
returns-in-Err g c =
    let place : c.len.result ≡ length c.items.found.items = omega (arith, c.len.ensures) in
    item_fails _ _ _ _ _ _ _ _ c.in-Some.ensures c.items.invariant (rw place at c.under.ensures) c.in-Err.ensures.gives

pub items-preserved : goal.items-preserved
items-preserved g c = item_read g.T.Form.codec.of c.items.found.items _ _ _ _ _ _ c.in-Some.ensures c.in-Ok.ensures.gives (search rules) c.items.invariant

pub returns : goal.returns
returns g c = all_read _ _ _ _ c.in_default.ensures.0 c.items.invariant
