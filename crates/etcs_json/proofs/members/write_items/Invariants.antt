use Rattle.std.proofs.Common.{take}
use Rattle.etcs_schema.specs.Writing.{each_tokens}
use Rattle.etcs_json.proofs.members.write_items.Given as goal

-- the items so far are written
abbrev pub invariant-items : goal.invariant-items
invariant-items g l = g.M.TokenWriter.adds (each_tokens g.T.Form.codec.to (take l.item-index l.items)) l.initial.out l.out
