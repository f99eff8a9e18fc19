use Rattle.std.proofs.Common.{◌≡◌, ◌++◌, length, map}
use Rattle.etcs_document.proofs.document_values.only_values.Given as goal

-- the values so far, and the remaining ones
abbrev pub invariant-items : goal.invariant-items
invariant-items g l =
    map g.N.JsonValue.value l.values.items ++ g.N.JsonValue.rest l.items ≡ g.N.JsonValue.rest l.initial.items

abbrev pub decreases-items : goal.decreases-items
decreases-items g l = length (g.N.JsonValue.rest l.items)
