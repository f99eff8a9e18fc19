use Rattle.std.proofs.Common.{rules, ap, map, ◌∙◌, string_bytes}
use Rattle.std.specs.List.{list_all}
use Rattle.etcs_schema.specs.Entries.{is_known}
use Rattle.etcs_schema.proofs.Keys.{are_known-entries}
use Rattle.etcs_schema.proofs.json_value.keys.all_among.Goals as goal

pub loop-name-init : goal.loop-name-init
loop-name-init c = record {
  can = search rules;
  finite = search rules;
  left = ap (list_all (λ k. is_known (string_bytes k) (map (λ l. l.now) c.args.keys.now))) (c.into_iter-name-iterator.ensures.into_iter_gives ∙ c.keys-name-items.ensures.rest)
      ∙ are_known-entries (map (λ l. l.now) c.args.keys.now) c.args.members.now.entries;
}
