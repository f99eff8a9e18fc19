use Rattle.std.proofs.Common.{◌≡◌, length}
use Rattle.etcs_schema.specs.Reading.{indexed_items}
use Rattle.etcs_schema.proofs.ListLemmas.{with_front}
use Rattle.etcs_json.proofs.reading.read_items.Given as goal

-- the items so far are read
abbrev pub invariant-items : goal.invariant-items
invariant-items g l =
    with_front l.found.items (indexed_items g.T.Form.codec.of (length l.found.items) (g.N.JsonValue.rest l.items)) ≡ indexed_items g.T.Form.codec.of 0 (g.N.JsonValue.rest l.fn.items)

abbrev pub decreases-items : goal.decreases-items
decreases-items g l = length (g.N.JsonValue.rest l.items)
